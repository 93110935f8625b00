-- So many columns are read, and those that are left are read of what is left.
use Rattle.std.proofs.Common.{◌≡◌, ◌-◌}
use Rattle.repl_wire.specs.Judging.{entries_at, field_at}
use Rattle.repl_wire.proofs.ServerFields.{with_front}
use Rattle.repl_wire.proofs.server_fields.fields_of.Given as goal

abbrev pub invariant-loop : goal.invariant-loop
invariant-loop l = with_front l.fields.items (entries_at field_at (l.count - l.counter) l.rest) ≡ entries_at field_at l.count l.bytes
