-- The law `printed_is_read`.
use Rattle.repl_cmd.proofs.SpellingRead.{spelling_read}
use Rattle.repl_cmd.proofs.laws.printed_is_read.Goals as goal

pub returns : goal.returns
returns c = spelling_read
