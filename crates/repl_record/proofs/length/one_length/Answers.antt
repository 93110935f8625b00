-- An image is as long as the length of the body says.
use Rattle.repl_record.proofs.ImageLength.{same_image_end, same_image_length}
use Rattle.repl_record.proofs.length.one_length.Goals as goal

pub returns-clause-length : goal.returns-clause-length
returns-clause-length c = same_image_length

pub returns-clause-end : goal.returns-clause-end
returns-clause-end c = same_image_end
