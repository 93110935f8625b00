-- A prefix of records.
use Rattle.repl_walk.proofs.Timelines.{prefix_alike}
use Rattle.repl_walk.proofs.timeline_laws.alike_prefix.Goals as goal

pub returns : goal.returns
returns c = prefix_alike
