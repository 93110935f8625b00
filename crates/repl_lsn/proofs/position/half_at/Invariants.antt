-- The digits so far and what they write.
use Rattle.std.proofs.Common.{length, ◌-◌}
use Rattle.repl_lsn.proofs.Halves.{DigitsAt}
use Rattle.repl_lsn.proofs.position.half_at.Given as goal

abbrev pub invariant-loop-end : goal.invariant-loop-end
invariant-loop-end l = DigitsAt l.text l.start l.value l.end

abbrev pub decreases-loop-end : goal.decreases-loop-end
decreases-loop-end l = length l.text - l.end
