-- A fault remains.
use Rattle.repl_walk.proofs.Faults.{fault_more}
use Rattle.repl_walk.proofs.end_laws.more_keeps_faults.Goals as goal

pub returns : goal.returns
returns c = fault_more
