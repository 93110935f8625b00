-- The law `refused_front`.
use Rattle.repl_cmd.proofs.Readings.{stopped_front}
use Rattle.repl_cmd.proofs.laws.refused_front.Goals as goal

pub returns : goal.returns
returns c = stopped_front
