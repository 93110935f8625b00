-- The law `printed_is_read`.
use Rattle.repl_names.proofs.PrintedTokens.{spelling_is_read}
use Rattle.repl_names.proofs.laws.printed_is_read.Goals as goal

pub returns : goal.returns
returns c = spelling_is_read
