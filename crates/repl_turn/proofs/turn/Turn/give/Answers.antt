-- The rule allows the turn to be given on.
use Rattle.std.proofs.Common.{arith, sym, ap, ◌∙◌}
use Rattle.repl_turn.proofs.Gives.{gives_on}
use Rattle.repl_turn.proofs.turn.Turn.give.Goals as goal

pub fetch_add-requires : goal.fetch_add-requires
fetch_add-requires g c =
    let sized = c.self.invariant in
    let held = c.requires.held in (
      c.requires.seat ∙ ap (λ t. t.table) (sym c.self.view_is),
      omega (arith, sized.0),
      gives_on _ _ _ _ _ held.ticket held.before held.after c.args.asked.value c.args.reply.now _ sized.1 held.stage held.carried
          held.numbered held.made c.requires.said,
    )
