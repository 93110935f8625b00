-- A walker at a record end.
use Rattle.repl_walk.proofs.Walks.{begun_at_end}
use Rattle.repl_walk.proofs.walk_laws.begins_at_an_end.Goals as goal

pub returns : goal.returns
returns c = begun_at_end
