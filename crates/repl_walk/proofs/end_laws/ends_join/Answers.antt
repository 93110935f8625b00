-- Ends counted from an end are ends.
use Rattle.repl_walk.proofs.Ends.{joined}
use Rattle.repl_walk.proofs.end_laws.ends_join.Goals as goal

pub returns : goal.returns
returns c = joined
