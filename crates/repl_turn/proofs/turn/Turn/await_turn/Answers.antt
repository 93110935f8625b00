-- The rule allows a look whether the ticket is served.
use Rattle.std.proofs.Common.{arith, sym, ap, ◌∙◌}
use Rattle.repl_turn.proofs.Looks.{looks}
use Rattle.repl_turn.proofs.turn.Turn.await_turn.Goals as goal

pub load-served-requires : goal.load-served-requires
load-served-requires g c =
    let sized = c.self.invariant in
    let stay = c.loop.invariant in (
      stay.0.0 ∙ (c.requires.seat ∙ ap (λ t. t.table) (sym c.self.view_is)),
      omega (arith, sized.0),
      looks _ _ _ _ _ c.args.ticket sized.1 (ap (λ m. m.0.stage) stay.1 ∙ c.requires.waits.0),
    )
