-- The values so far are written, and they fit.
use Rattle.std.proofs.Common.{◌≡◌, ◌++◌, length, take}
use Rattle.std.specs.List.{AllByRecursion, flat_map}
use Rattle.repl_message.specs.Message.{int16, column, FitsColumn}
use Rattle.repl_message.proofs.encode_server.put_columns.Given as goal

abbrev pub invariant-loop-entry : goal.invariant-loop-entry
invariant-loop-entry l = record {
  added : l.out.items ≡ l.fn.out.items ++ (int16 (length l.entries) ++ flat_map column (take l.entry-index l.entries));
  fit : AllByRecursion FitsColumn (take l.entry-index l.entries);
}
