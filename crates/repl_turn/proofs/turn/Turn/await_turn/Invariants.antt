-- Until its turn comes, the seat is as it was.
use Rattle.std.proofs.Common.{◌≡◌}
use Rattle.repl_turn.specs.Rule.{IsSameSeat}
use Rattle.repl_turn.proofs.turn.Turn.await_turn.Given as goal

abbrev pub invariant-loop : goal.invariant-loop
invariant-loop g l = IsSameSeat l.initial.token l.token × (l.token.me ≡ l.initial.token.me)
