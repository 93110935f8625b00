-- The law `met_forward`.
use Rattle.repl_names.proofs.Progress.{stays_met_forward}
use Rattle.repl_names.proofs.laws.met_forward.Goals as goal

pub returns : goal.returns
returns c = stays_met_forward
