-- The log has one answer.
use Rattle.repl_record.proofs.LogAnswers.{same_answer}
use Rattle.repl_record.proofs.laws.one_answer.Goals as goal

pub returns : goal.returns
returns c = same_answer
