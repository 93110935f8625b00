-- The pass stays one of this turn.
use Rattle.std.proofs.Common.{◌≡◌}
use Rattle.test_system.proofs.turns.take_turns.Given as goal

abbrev pub invariant-loop-round : goal.invariant-loop-round
invariant-loop-round g l = l.pass.turn ≡ l.turn
