-- A cut keeps the prefix.
use Rattle.repl_walk.proofs.Cuts.{cut_prefix}
use Rattle.repl_walk.proofs.end_laws.cut_keeps_prefix.Goals as goal

pub returns : goal.returns
returns c = cut_prefix
