-- The law `released_decides`.
use Rattle.repl_names.proofs.GreatestMet.{met_where_released}
use Rattle.repl_names.proofs.laws.released_decides.Goals as goal

pub returns : goal.returns
returns c = met_where_released
