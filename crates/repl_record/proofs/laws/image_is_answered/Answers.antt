-- An image at the front of the log is answered by its end.
use Rattle.repl_record.proofs.LogAnswers.{answered}
use Rattle.repl_record.proofs.laws.image_is_answered.Goals as goal

pub returns : goal.returns
returns c ident timeline from prev item log n used = answered ident timeline from prev item log n
