-- Bytes spell one control.
use Rattle.repl_control.proofs.Spelled.{control_one}
use Rattle.repl_control.proofs.laws.one_control.Goals as goal

pub returns : goal.returns
returns c = control_one
