-- The pass stays one of this turn.
use Rattle.std.proofs.Common.{◌≡◌}
use Rattle.test_system.proofs.turns.add_lines.Given as goal

abbrev pub invariant-loop-index : goal.invariant-loop-index
invariant-loop-index g l = l.pass.turn ≡ l.turn
