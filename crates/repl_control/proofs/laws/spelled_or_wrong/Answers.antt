-- Bytes spell a control or have a fault.
use Rattle.repl_control.proofs.Judged.{judged}
use Rattle.repl_control.proofs.laws.spelled_or_wrong.Goals as goal

pub returns : goal.returns
returns c = judged
