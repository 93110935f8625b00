-- The last parameter of a name is one.
use Rattle.repl_message.proofs.Finding.{last_one, last_some}
use Rattle.repl_message.proofs.laws.one_value.Goals as goal

pub returns-clause-value : goal.returns-clause-value
returns-clause-value c = last_one

pub returns-clause-some : goal.returns-clause-some
returns-clause-some c = last_some
