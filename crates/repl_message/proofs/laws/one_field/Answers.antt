-- The first field with a code is one.
use Rattle.repl_message.proofs.Finding.{first_one, first_some}
use Rattle.repl_message.proofs.laws.one_field.Goals as goal

pub returns-clause-text : goal.returns-clause-text
returns-clause-text c = first_one

pub returns-clause-some : goal.returns-clause-some
returns-clause-some c = first_some
