-- The law `some_reading`.
use Rattle.repl_token.proofs.HasReading.{has_reading}
use Rattle.repl_token.proofs.laws.some_reading.Goals as goal

pub returns : goal.returns
returns c = has_reading
