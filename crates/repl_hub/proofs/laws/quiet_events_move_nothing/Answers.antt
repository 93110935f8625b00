-- The law `quiet_events_move_nothing`.
use Rattle.repl_hub.proofs.Quieting.{moves_nothing}
use Rattle.repl_hub.proofs.laws.quiet_events_move_nothing.Goals as goal

pub returns : goal.returns
returns c = moves_nothing
