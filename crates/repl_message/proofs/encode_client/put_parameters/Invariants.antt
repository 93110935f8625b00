-- The parameters so far are written, and they fit.
use Rattle.std.proofs.Common.{◌≡◌, ◌++◌, take}
use Rattle.std.specs.List.{AllByRecursion, flat_map}
use Rattle.repl_message.specs.Message.{pair, FitsPair}
use Rattle.repl_message.proofs.encode_client.put_parameters.Given as goal

abbrev pub invariant-loop-entry : goal.invariant-loop-entry
invariant-loop-entry l = record {
  added : l.out.items ≡ l.fn.out.items ++ flat_map pair (take l.entry-index l.entry-items);
  fit : AllByRecursion FitsPair (take l.entry-index l.entry-items);
}
