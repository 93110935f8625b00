-- The rule allows a look at the history, and one that finds nothing new changes nothing.
use Rattle.std.proofs.Common.{arith, ◌≤◌, length, sym, ap, ◌∙◌, subst}
use Rattle.repl_turn.proofs.Watches.{watches, nothing_seen}
use Rattle.repl_turn.proofs.turn.Turn.await_change.Goals as goal

pub load-found-requires : goal.load-found-requires
load-found-requires g c =
    let sized = c.self.invariant in
    let stay = c.loop.invariant in (
      stay.0.0 ∙ (c.requires.seat ∙ ap (λ t. t.table) (sym c.self.view_is)),
      omega (arith, sized.0),
      watches _ _ _ _ _ (ap (λ m. m.0.stage) stay.1 ∙ c.requires.idle),
    )

pub loop-preserved : goal.loop-preserved
loop-preserved g c =
    let stay = c.loop.invariant in
    let load = c.load-found.ensures in
    let seen : c.load-found.result ≤ length c.loop.token.me.0.seen = subst (λ n. c.load-found.result ≤ n) (c.requires.counted
    ∙ ap (λ m. length m.0.seen) (sym stay.1)) c.if-found-count.false in
    let same = nothing_seen g.M.Machine.steps _ _ _ (ap (λ m. m.0.stage) stay.1 ∙ c.requires.idle) load.2 seen in
    ((load.0 ∙ stay.0.0, load.1 ∙ stay.0.1), same ∙ stay.1)
