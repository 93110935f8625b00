-- What each turn of the loop in `put_names` keeps, and that it ends.
use Rattle.std.proofs.Common.{◌≡◌, ◌++◌, take}
use Rattle.repl_names.specs.StandbyList.{names_spelling}
use Rattle.repl_names.proofs.print.put_names.Given as goal

abbrev pub invariant-loop-i : goal.invariant-loop-i
invariant-loop-i l = l.out.items ≡ l.initial.out.items ++ names_spelling (take l.i l.names)
