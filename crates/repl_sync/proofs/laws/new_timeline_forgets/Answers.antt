-- The law `new_timeline_forgets`.
use Rattle.repl_sync.proofs.Lawful.{forgets}
use Rattle.repl_sync.proofs.laws.new_timeline_forgets.Goals as goal

pub returns : goal.returns
returns c = forgets
