-- A walker.
use Rattle.repl_walk.proofs.Timelines.{walked_alike}
use Rattle.repl_walk.proofs.timeline_laws.alike_walks.Goals as goal

pub returns : goal.returns
returns c = walked_alike
