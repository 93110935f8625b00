-- Two images from one start are equally long.
use Rattle.repl_record.proofs.LogAnswers.{same_end}
use Rattle.repl_record.proofs.laws.one_end.Goals as goal

pub returns : goal.returns
returns c = same_end
