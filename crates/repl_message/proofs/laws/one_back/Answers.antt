-- One spelling of a server's message, and what follows it.
use Rattle.repl_message.proofs.OneSpelling.{backs_one}
use Rattle.repl_message.proofs.laws.one_back.Goals as goal

pub returns : goal.returns
returns c = backs_one
