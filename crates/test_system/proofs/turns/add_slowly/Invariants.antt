-- The pass stays one of this turn.
use Rattle.std.proofs.Common.{◌≡◌}
use Rattle.test_system.proofs.turns.add_slowly.Given as goal

abbrev pub invariant-loop : goal.invariant-loop
invariant-loop g l = l.pass.turn ≡ l.turn
