-- Record ends.
use Rattle.repl_walk.proofs.Timelines.{ends_alike}
use Rattle.repl_walk.proofs.timeline_laws.alike_ends.Goals as goal

pub returns : goal.returns
returns c = ends_alike
