-- The law `tickets_differ`.
use Rattle.repl_sync.proofs.Lawful.{rises, given_above}
use Rattle.repl_sync.proofs.laws.tickets_differ.Goals as goal

pub returns-clause-rises : goal.returns-clause-rises
returns-clause-rises c = rises

pub returns-clause-given : goal.returns-clause-given
returns-clause-given c = given_above
