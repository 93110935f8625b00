-- The law `released_stays`.
use Rattle.repl_names.proofs.Staying.{no_less_released}
use Rattle.repl_names.proofs.laws.released_stays.Goals as goal

pub returns : goal.returns
returns c = no_less_released
