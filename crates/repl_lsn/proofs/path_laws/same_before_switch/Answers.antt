-- A child agrees with its parent below the switch point.
use Rattle.repl_lsn.proofs.Relations.{on_child}
use Rattle.repl_lsn.proofs.path_laws.same_before_switch.Goals as goal

pub returns : goal.returns
returns c = λ a b switch at tli _ _. on_child a b switch at tli
