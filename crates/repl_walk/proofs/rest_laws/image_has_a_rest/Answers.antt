-- An image from a page's start on.
use Rattle.repl_walk.proofs.RestImages.{rest_is, rest_limit, rest_some}
use Rattle.repl_walk.proofs.rest_laws.image_has_a_rest.Goals as goal

pub returns-clause-is_rest : goal.returns-clause-is_rest
returns-clause-is_rest c = rest_is

pub returns-clause-some : goal.returns-clause-some
returns-clause-some c = rest_some

pub returns-clause-limit : goal.returns-clause-limit
returns-clause-limit c = rest_limit
