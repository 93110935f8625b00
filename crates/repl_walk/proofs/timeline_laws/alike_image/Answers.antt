-- An image.
use Rattle.repl_walk.proofs.Timelines.{image_alike}
use Rattle.repl_walk.proofs.timeline_laws.alike_image.Goals as goal

pub returns : goal.returns
returns c = image_alike
