-- A promotion makes a child.
use Rattle.std.proofs.Common.{refl, codes}
use Rattle.repl_lsn.proofs.Relations.{promotion_is_child}
use Rattle.repl_lsn.proofs.path_laws.child_is_child.Goals as goal

pub returns : goal.returns
returns c = λ path tli switch _ _. promotion_is_child path (record { tli = path.own; switch = switch; reason = codes "promoted" }) tli refl
