-- What is written of a header agrees with it.
use Rattle.repl_page.proofs.Written.{written}
use Rattle.repl_page.proofs.laws.written_agrees.Goals as goal

pub returns : goal.returns
returns c = written
