-- Two paths have one relation.
use Rattle.repl_lsn.proofs.Relations.{one_relation}
use Rattle.repl_lsn.proofs.path_laws.one_relation.Goals as goal

pub returns-clause-one : goal.returns-clause-one
returns-clause-one c = λ a b r s _ _. one_relation a b r s
