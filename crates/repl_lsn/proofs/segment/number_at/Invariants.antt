-- The digits so far and what they write.
use Rattle.repl_lsn.proofs.NameReading.{UpperAt}
use Rattle.repl_lsn.proofs.segment.number_at.Given as goal

abbrev pub invariant-loop-place : goal.invariant-loop-place
invariant-loop-place l = UpperAt l.text l.start l.value l.place
