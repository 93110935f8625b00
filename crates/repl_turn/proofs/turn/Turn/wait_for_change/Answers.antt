-- What was seen while waiting, as the pass knows it.
use Rattle.std.proofs.Common.{◌<◌, ◌++◌, length, sym, ap, ◌∙◌, subst}
use Rattle.repl_turn.specs.History.{Known, Watches}
use Rattle.repl_turn.proofs.Watches.{some_more}
use Rattle.repl_turn.proofs.Knowing.{known, watched_pass, watches_known}
use Rattle.repl_turn.proofs.turn.Turn.wait_for_change.Goals as goal

pub await_change-pass-inside-requires-clause-seat : goal.await_change-pass-inside-requires-clause-seat
await_change-pass-inside-requires-clause-seat g c = ap (λ p. p.turn.table) c.pass.view_is ∙ ap (λ t. t.table) c.requires

pub invariant_of-pass : goal.invariant_of-pass
invariant_of-pass g c =
    let w = c.await_change-pass-inside.ensures.watched in
    watched_pass g.M.Machine.steps _ _ _ w c.pass.invariant.2 c.pass.invariant.3

pub returns : goal.returns
returns g c =
    let v = c.pass.inside.token.me.0 in
    let w = c.await_change-pass-inside.ensures.watched in
    let seat = c.await_change-pass-inside.ensures.seat in
    let opened = ap (λ p. p.turn.opening) c.pass.view_is ∙ (ap (λ t. t.opening) c.requires ∙ ap (λ t. t.opening) (sym c.self.view_is)) in
    let longer : length v.seen < length (v.seen ++ w.more) = subst (λ n. n < length (v.seen ++ w.more)) c.pass.invariant.0
    (subst (λ n. c.pass.inside.count < n) (sym w.place) c.await_change-pass-inside.ensures.longer) in
    subst (λ (p : Known g.row.M.Denot g.row.M-Event.Denot g.row.M-Reply.Denot). Watches g.M.Machine.steps p
    (known c.await_change-pass-inside.new.token.table_id c.await_change-pass-inside.new.token.me.0)) c.pass.view_is
    (watches_known g.M.Machine.steps _ _ v _ w.more _ seat.0 opened (ap (λ m. m.0) w.view)
    (some_more v.seen w.more longer) w.others w.legal)
