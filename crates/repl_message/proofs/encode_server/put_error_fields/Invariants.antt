-- The fields so far are written, and they fit.
use Rattle.std.proofs.Common.{◌≡◌, ◌++◌, take}
use Rattle.std.specs.List.{AllByRecursion, flat_map}
use Rattle.repl_message.specs.Message.{error_field, FitsErrorField}
use Rattle.repl_message.proofs.encode_server.put_error_fields.Given as goal

abbrev pub invariant-loop-entry : goal.invariant-loop-entry
invariant-loop-entry l = record {
  added : l.out.items ≡ l.fn.out.items ++ flat_map error_field (take l.entry-index l.entry-items);
  fit : AllByRecursion FitsErrorField (take l.entry-index l.entry-items);
}
