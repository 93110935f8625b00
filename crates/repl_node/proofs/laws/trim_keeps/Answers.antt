-- The floor that a trim raises holds nothing back that a listed slot holds.
use Rattle.repl_node.proofs.Kept.{trimmed_left, trimmed_node}
use Rattle.repl_node.proofs.laws.trim_keeps.Goals as goal

pub returns-clause-moments : goal.returns-clause-moments
returns-clause-moments c = λ n keep is kept listed d saved left. trimmed_left n keep is kept listed d saved left

pub returns-clause-past : goal.returns-clause-past
returns-clause-past c = λ n m keep result is kept listed trimmed. trimmed_node n m keep result is kept listed trimmed
