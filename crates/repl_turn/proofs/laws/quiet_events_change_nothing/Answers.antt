-- Each quiet event leaves what is awaited, and so do all.
use Rattle.repl_turn.specs.Laws.{all_quiet}
use Rattle.repl_turn.proofs.laws.quiet_events_change_nothing.Goals as goal

pub returns : goal.returns
returns g c x h y quiet leads = all_quiet g.M.Machine.steps g.M.Machine.awaited g.M.Machine.quiet g.met.M.Machine.stays x h y quiet leads
