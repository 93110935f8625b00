-- What the loop of `read_session` keeps: how far the session has come in the pieces that were fed.
use Rattle.std.proofs.Common.{◌≡◌}
use Rattle.std.specs.Slice.Iter.{chunks_rest, chunks_size}
use Rattle.repl_identify.proofs.Sessions.{SoFar}
use Rattle.repl_identify.proofs.session.read_session.Given as goal

abbrev pub invariant-loop-piece : goal.invariant-loop-piece
invariant-loop-piece l = record {
  can_next : goal.iterator-loop-piece.can_next l.piece-iterator;
  is_finite : goal.iterator-loop-piece.is_finite l.piece-iterator;
  size : chunks_size l.piece-iterator ≡ 8_192;
  so_far : SoFar l.fn.input (chunks_rest l.piece-iterator) l.reader l.stage;
}
