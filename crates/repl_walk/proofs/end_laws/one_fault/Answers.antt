-- Two faults are one.
use Rattle.repl_walk.proofs.Faults.{same_fault}
use Rattle.repl_walk.proofs.end_laws.one_fault.Goals as goal

pub returns : goal.returns
returns c = same_fault
