-- The pass stays one of this turn.
use Rattle.std.proofs.Common.{◌≡◌}
use Rattle.bench_parts.proofs.commit.one_commit.Given as goal

abbrev pub invariant-loop : goal.invariant-loop
invariant-loop g l = l.pass.turn ≡ l.initial.pass.turn
