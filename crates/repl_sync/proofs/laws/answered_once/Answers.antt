-- The law `answered_once`.
use Rattle.repl_sync.proofs.Lawful.{cancelled_once, released_once}
use Rattle.repl_sync.proofs.laws.answered_once.Goals as goal

pub returns-clause-released : goal.returns-clause-released
returns-clause-released c = released_once

pub returns-clause-cancelled : goal.returns-clause-cancelled
returns-clause-cancelled c = cancelled_once
