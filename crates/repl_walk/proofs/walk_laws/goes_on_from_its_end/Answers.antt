-- A walker from its end on.
use Rattle.repl_walk.proofs.Walks.{from_its_end}
use Rattle.repl_walk.proofs.walk_laws.goes_on_from_its_end.Goals as goal

pub returns : goal.returns
returns c = from_its_end
