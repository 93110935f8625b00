-- The names that are copied so far.
use Rattle.std.proofs.Common.{◌≡◌, take}
use Rattle.repl_names.proofs.list.StandbyList.copy.Given as goal

abbrev pub invariant-loop-name : goal.invariant-loop-name
invariant-loop-name l = l.names.items ≡ take l.name-index l.name-items
