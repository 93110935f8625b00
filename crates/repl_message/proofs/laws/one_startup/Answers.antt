-- One spelling of a startup packet, and what follows it.
use Rattle.repl_message.proofs.OneSpelling.{startups_one}
use Rattle.repl_message.proofs.laws.one_startup.Goals as goal

pub returns : goal.returns
returns c = startups_one
