-- What each turn of the loop in `blank_names` keeps: so many names have room.
use Rattle.std.proofs.Common.{◌≡◌, ◌≤◌, All, vec_len, vec_capacity}
use Rattle.repl_sync.specs.Inside.{IsBlank}
use Rattle.repl_sync.proofs.room.blank_names.Given as goal

abbrev pub invariant-loop : goal.invariant-loop
invariant-loop l = record {
  count : vec_len l.names ≡ l.counter;
  blank : All (λ b. IsBlank b × (l.longest ≤ vec_capacity b)) l.names.items;
}
