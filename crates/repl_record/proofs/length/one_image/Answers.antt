-- Two images of an item with spelled headers are one.
use Rattle.repl_record.proofs.OneImage.{same_image}
use Rattle.repl_record.proofs.length.one_image.Goals as goal

pub returns : goal.returns
returns c = same_image
