-- The law `counted_reach`.
use Rattle.repl_names.proofs.Taken.{those_counted}
use Rattle.repl_names.proofs.laws.counted_reach.Goals as goal

pub returns : goal.returns
returns c = those_counted
