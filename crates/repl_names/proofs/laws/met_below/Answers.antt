-- The law `met_below`.
use Rattle.repl_names.proofs.Progress.{stays_met_below}
use Rattle.repl_names.proofs.laws.met_below.Goals as goal

pub returns : goal.returns
returns c = stays_met_below
