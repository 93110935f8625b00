-- A word is a position where it is read as one.
use Rattle.std.proofs.Common.{ℕ, refl}
use Rattle.std.proofs.lemmas.Bool.{false≢true}
use Rattle.repl_top.proofs.kinds.is_position.Goals as goal

pub returns-in-Some : goal.returns-in-Some
returns-in-Some c = (λ _. (c.in-Some.field-0, c.in-Some.ensures.some), λ _. refl)

pub returns-in-None : goal.returns-in-None
returns-in-None c = (λ t. absurd (false≢true t), λ is. absurd (c.in-None.ensures.none is.0 is.1))
