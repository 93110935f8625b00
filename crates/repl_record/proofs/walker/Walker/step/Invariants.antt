-- The walker has gone through the bytes used so far, and no record ended; fewer are left.
use Rattle.std.proofs.Common.{◌-◌, length}
use Rattle.repl_record.proofs.WalkerSteps.{Walked}
use Rattle.repl_record.proofs.walker.Walker.step.Given as goal

abbrev pub invariant-loop-used : goal.invariant-loop-used
invariant-loop-used l = Walked l.initial.self l.self l.tli l.bytes l.used

abbrev pub decreases-loop-used : goal.decreases-loop-used
decreases-loop-used l = length l.bytes - l.used
