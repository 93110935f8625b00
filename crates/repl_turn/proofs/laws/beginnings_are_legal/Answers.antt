-- A beginning of a legal history is legal.
use Rattle.repl_turn.specs.Laws.{legal_front}
use Rattle.repl_turn.proofs.laws.beginnings_are_legal.Goals as goal

pub returns : goal.returns
returns g c turn begun h pre legal = legal_front g.M.Machine.steps turn begun h pre legal
