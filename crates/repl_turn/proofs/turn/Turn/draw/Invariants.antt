-- A failed draw leaves the seat as it is.
use Rattle.std.proofs.Common.{◌≡◌}
use Rattle.repl_turn.specs.Rule.{IsSameSeat}
use Rattle.repl_turn.proofs.turn.Turn.draw.Given as goal

abbrev pub invariant-loop : goal.invariant-loop
invariant-loop g l = IsSameSeat l.initial.token l.token × (l.token.me ≡ l.initial.token.me)
