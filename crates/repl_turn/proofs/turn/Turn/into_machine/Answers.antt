-- Where each ticket was served, the machine that comes back is in the state to which the history led.
use Rattle.std.proofs.Common.{sym, ap, ◌∙◌, subst}
use mathlib.Core.Option.{some}
use Rattle.repl_turn.specs.History.{Known, Ends}
use Rattle.repl_turn.proofs.Endings.{ended}
use Rattle.repl_turn.proofs.turn.Turn.into_machine.Goals as goal

pub returns-then-drawn-served : goal.returns-then-drawn-served
returns-then-drawn-served g c =
    let token = c.pass.inside.token in
    let opened = ap (λ p. p.turn.opening) c.pass.view_is ∙ (ap (λ t. t.opening) c.requires ∙ ap (λ t. t.opening) (sym c.self.view_is)) in
    let served = c.word-served.ensures ∙ ap some (sym c.if-drawn-served.true) in
    subst (λ (p : Known g.row.M.Denot g.row.M-Event.Denot g.row.M-Reply.Denot). Ends g.M.Machine.steps p c.take-machine.result)
    c.pass.view_is
    (ended g.M.Machine.steps _ token.table_id token.id token.me.0 _ _ c.word-drawn.result c.take-machine.result opened
    c.close_with-closed.ensures.values.2 c.word-drawn.ensures served c.take-machine.ensures.value)
