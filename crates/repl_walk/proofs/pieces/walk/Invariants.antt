-- The walker has taken a part of the piece, and fewer bytes are left each time.
use Rattle.std.proofs.Common.{length}
use Rattle.repl_walk.proofs.Walks.{Going}
use Rattle.repl_walk.proofs.pieces.walk.Given as goal

abbrev pub invariant-records : goal.invariant-records
invariant-records l = Going l.initial.walker l.walker l.tli l.bytes l.rest

abbrev pub decreases-records : goal.decreases-records
decreases-records l = length l.rest
