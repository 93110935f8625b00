-- The values so far are counted.
use Rattle.std.proofs.Common.{◌≡◌, ◌+◌, length, take}
use Rattle.std.specs.List.{flat_map}
use Rattle.repl_message.specs.Message.{column}
use Rattle.repl_message.specs.Encoding.{capped}
use Rattle.repl_message.proofs.lengths.of_columns.Given as goal

abbrev pub invariant-loop-entry : goal.invariant-loop-entry
invariant-loop-entry l = l.sum ≡ capped (2 + length (flat_map column (take l.entry-index l.columns)))
