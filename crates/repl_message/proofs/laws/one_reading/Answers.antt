-- A stream of a server is read in one way.
use Rattle.repl_message.proofs.OneSpelling.{reading_one}
use Rattle.repl_message.proofs.laws.one_reading.Goals as goal

pub returns : goal.returns
returns c = reading_one
