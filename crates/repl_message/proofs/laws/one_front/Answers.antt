-- One spelling of a client's message, and what follows it.
use Rattle.repl_message.proofs.OneSpelling.{fronts_one}
use Rattle.repl_message.proofs.laws.one_front.Goals as goal

pub returns : goal.returns
returns c = fronts_one
