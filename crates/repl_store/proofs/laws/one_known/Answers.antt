-- By a search below 2^32, and since each bounds the other.
use Rattle.repl_store.proofs.Hearing.{known_exists, one_known}
use Rattle.repl_store.proofs.laws.one_known.Goals as goal

pub returns-clause-some : goal.returns-clause-some
returns-clause-some c folder own = known_exists folder own

pub returns-clause-one : goal.returns-clause-one
returns-clause-one c folder own a b some is_a is_b = one_known folder own a b some is_a is_b
