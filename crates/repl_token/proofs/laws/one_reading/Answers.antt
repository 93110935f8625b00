-- The law `one_reading`.
use Rattle.repl_token.proofs.OneReading.{reads_one}
use Rattle.repl_token.proofs.laws.one_reading.Goals as goal

pub returns : goal.returns
returns c = reads_one
