-- The parameters so far are read, and the others are read of what is left.
use Rattle.std.proofs.Common.{◌≡◌, ◌-◌, length}
use Rattle.repl_wire.specs.Judging.{pairs_at}
use Rattle.repl_wire.proofs.PairLaws.{with_front}
use Rattle.repl_wire.proofs.fields.pairs_of.Given as goal

abbrev pub invariant-loop : goal.invariant-loop
invariant-loop l = with_front l.pairs.items (pairs_at (length l.body - l.counter) l.rest) ≡ pairs_at (length l.body) l.body
