-- The law `released_stays`.
use Rattle.repl_sync.proofs.Lawful.{stays_released}
use Rattle.repl_sync.proofs.laws.released_stays.Goals as goal

pub returns : goal.returns
returns c = stays_released
