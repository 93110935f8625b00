-- What a part of the record or of the gap tells is told.
use Rattle.repl_record.proofs.walker.Walker.advance.Goals as goal

pub returns-then-self-goal-clause-moved : goal.returns-then-self-goal-clause-moved
returns-then-self-goal-clause-moved c timeline from prev log stands on = c.through_record.ensures.moved timeline from prev log stands

pub returns-else-self-goal-clause-moved : goal.returns-else-self-goal-clause-moved
returns-else-self-goal-clause-moved c timeline from prev log stands on = c.through_gap.ensures.moved timeline from prev log stands
