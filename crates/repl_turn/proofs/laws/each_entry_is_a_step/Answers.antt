-- A legal history is split at an entry.
use Rattle.repl_turn.specs.Laws.{step_at}
use Rattle.repl_turn.proofs.laws.each_entry_is_a_step.Goals as goal

pub returns : goal.returns
returns g c turn h at e legal is = (legal.0, legal.1, legal.2, step_at g.M.Machine.steps legal.0 h legal.2 at e legal.3 is)
