-- The law `none_waits_without_names`.
use Rattle.repl_sync.proofs.Lawful.{nobody_waits}
use Rattle.repl_sync.proofs.laws.none_waits_without_names.Goals as goal

pub returns : goal.returns
returns c = nobody_waits
