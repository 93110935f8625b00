-- The pass stays one of this turn.
use Rattle.std.proofs.Common.{◌≡◌}
use Rattle.bench_parts.proofs.counter.one_by_turn.Given as goal

abbrev pub invariant-loop : goal.invariant-loop
invariant-loop g l = l.pass.turn ≡ l.turn
