-- What is laid is the beginning of the image, and its bytes of the record are those before and those of the piece.
use Rattle.std.proofs.Common.{length}
use Rattle.repl_record.proofs.LayingBlocks.{IsGoing}
use Rattle.repl_record.proofs.laying.put.Given as goal

abbrev pub invariant-loop-rest : goal.invariant-loop-rest
invariant-loop-rest l = IsGoing l.place l.initial.out.items l.piece l.out.items l.rest l.laid

abbrev pub decreases-loop-rest : goal.decreases-loop-rest
decreases-loop-rest l = length l.rest
