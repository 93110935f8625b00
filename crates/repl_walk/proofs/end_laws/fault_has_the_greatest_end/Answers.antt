-- The end before a fault is the greatest.
use Rattle.repl_walk.proofs.Faults.{fault_greatest}
use Rattle.repl_walk.proofs.end_laws.fault_has_the_greatest_end.Goals as goal

pub returns : goal.returns
returns c = fault_greatest
