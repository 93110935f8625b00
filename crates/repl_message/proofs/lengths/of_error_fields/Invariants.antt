-- The fields so far are counted.
use Rattle.std.proofs.Common.{◌≡◌, ◌+◌, length, take}
use Rattle.std.specs.List.{flat_map}
use Rattle.repl_message.specs.Message.{error_field}
use Rattle.repl_message.specs.Encoding.{capped}
use Rattle.repl_message.proofs.lengths.of_error_fields.Given as goal

abbrev pub invariant-loop-entry : goal.invariant-loop-entry
invariant-loop-entry l = l.sum ≡ capped (1 + length (flat_map error_field (take l.entry-index l.fields)))
