-- What each turn of the loop in `fill` keeps: those counted are the first that are taken of the candidates so far.
use Rattle.std.proofs.Common.{◌≡◌, ◌+◌, ◌≤◌, map, All, take, vec_len, vec_capacity}
use Rattle.repl_sync.specs.Sync.{counted_as}
use Rattle.repl_sync.specs.Inside.{sessions_of, taken, IsBlank, FitsNames}
use Rattle.repl_sync.proofs.filling.fill.Given as goal

abbrev pub invariant-loop-candidate : goal.invariant-loop-candidate
invariant-loop-candidate l = record {
  told : l.counted.items ≡ map (counted_as (sessions_of l.entries) l.mode) (taken l.list (take l.candidate-index l.order) l.mode l.end);
  few : vec_len l.counted ≤ l.candidate-index;
  places : vec_capacity l.counted ≡ vec_capacity l.fn.counted;
  names : vec_len l.names + vec_len l.counted ≡ vec_len l.fn.names;
  blank : All (λ b. IsBlank b × FitsNames (sessions_of l.entries) b) l.names.items;
}
