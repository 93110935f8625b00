-- Bytes have one fault, and none where they spell a control.
use Rattle.repl_control.proofs.Spelled.{fault_one, spelled_right}
use Rattle.repl_control.proofs.laws.one_control_fault.Goals as goal

pub returns-clause-one : goal.returns-clause-one
returns-clause-one c = fault_one

pub returns-clause-none : goal.returns-clause-none
returns-clause-none c = spelled_right
