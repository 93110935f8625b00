-- The rule allows a draw.
use Rattle.std.proofs.Common.{arith, refl, sym, ap, ◌∙◌}
use Rattle.repl_turn.proofs.Draws.{draws}
use Rattle.repl_turn.proofs.turn.Turn.draw.Goals as goal

pub compare_exchange-found-requires : goal.compare_exchange-found-requires
compare_exchange-found-requires g c =
    let sized = c.self.invariant in
    let stay = c.loop.invariant in (
      stay.0.0 ∙ (c.requires.seat ∙ ap (λ t. t.table) (sym c.self.view_is)),
      omega (arith, sized.0),
      draws _ _ _ _ _ _ _ (ap (λ m. m.0.stage) stay.1 ∙ c.requires.idle.0) c.if-ticket-lt-TICKETS.true refl,
    )
