-- Draw, wait and give, put together, are one event of the pass.
use Rattle.std.proofs.Common.{◌≡◌, ◌<◌, length, sym, ap, ◌∙◌, subst}
use Rattle.repl_turn.specs.declared.rule.View.{View}
use Rattle.repl_turn.specs.declared.rule.Stage.TheVariants.{Holding}
use Rattle.repl_turn.specs.History.{Known, Acts}
use Rattle.repl_turn.specs.Rule.{at_stage}
use Rattle.repl_turn.proofs.Knowing.{known, acts_known}
use Rattle.repl_turn.proofs.turn.Turn.act.Goals as goal

pub returns-clause-acts : goal.returns-clause-acts
returns-clause-acts g c =
    let v = c.pass.inside.token.me.0 in
    let held = c.await_turn.ensures.held in
    let u = c.await_turn.new.token.me.0 in
    let is : u ≡ at_stage v (Holding c.draw-ticket.result held.0) = ap (λ m. m.0) held.1
    ∙ ap (λ m. at_stage m.0 (Holding c.draw-ticket.result held.0)) c.draw-ticket.ensures.drawn in
    let opened = ap (λ p. p.turn.opening) c.pass.view_is ∙ (ap (λ t. t.opening) c.requires ∙ ap (λ t. t.opening) (sym c.self.view_is)) in
    let numbered : 0 < length u.numbers = subst (λ (w : View g.row.M.Denot g.row.M-Event.Denot g.row.M-Reply.Denot). 0 < length w.numbers)
    (sym is) c.pass.invariant.3 in
    let table = c.pass.inside.token.table_id in
    let after = known c.give-at.new.token.table_id c.give-at.new.token.me.0 in
    let acts = acts_known g.M.Machine.steps table _ u _ _ _ _ _ (c.give-at.ensures.seat.0
    ∙ (c.await_turn.ensures.seat.0 ∙ c.draw-ticket.ensures.seat.0)) (ap (λ w. w.opening) is ∙ opened) numbered c.give-at.ensures.gave in
    subst (λ (p : Known g.row.M.Denot g.row.M-Event.Denot g.row.M-Reply.Denot). Acts g.M.Machine.steps p c.args.event c.act-reply.result
    c.give-at.result after)
    (ap (known table) is ∙ c.pass.view_is)
    (subst (λ (event : g.row.M-Event.Denot). Acts g.M.Machine.steps
    (known table u) event c.act-reply.result c.give-at.result after) c.of-asked.ensures acts)
