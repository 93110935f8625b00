-- The fields so far are read, and the others are read of what is left.
use Rattle.std.proofs.Common.{◌≡◌, ◌-◌, length}
use Rattle.repl_wire.specs.Judging.{coded_at}
use Rattle.repl_wire.proofs.ServerFields.{with_front}
use Rattle.repl_wire.proofs.server_fields.coded_of.Given as goal

abbrev pub invariant-loop : goal.invariant-loop
invariant-loop l = with_front l.fields.items (coded_at (length l.body - l.counter) l.rest) ≡ coded_at (length l.body) l.body
