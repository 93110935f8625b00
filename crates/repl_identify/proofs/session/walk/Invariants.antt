-- The messages that the reader gave so far lead to the present stage.
use Rattle.std.proofs.Common.{length}
use Rattle.repl_identify.specs.Stages.{Walked}
use Rattle.repl_identify.proofs.session.walk.Given as goal

abbrev pub invariant-loop-message : goal.invariant-loop-message
invariant-loop-message l = Walked l.initial.reader l.fn.from l.reader l.stage

abbrev pub decreases-loop-message : goal.decreases-loop-message
decreases-loop-message l = length l.reader.rest
