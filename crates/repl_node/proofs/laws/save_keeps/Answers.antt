-- What is saved at or above the floor is kept, since the floor is a segment's start.
use Rattle.repl_node.proofs.Kept.{above_kept, saved_left}
use Rattle.repl_node.proofs.laws.save_keeps.Goals as goal

pub returns-clause-moments : goal.returns-clause-moments
returns-clause-moments c = λ n is kept above d saved left. saved_left n is kept above d saved left

pub returns-clause-past : goal.returns-clause-past
returns-clause-past c = λ n is above. above_kept n is above
