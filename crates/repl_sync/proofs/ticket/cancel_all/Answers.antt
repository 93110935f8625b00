-- What `cancel_all` ensures.
use Rattle.std.proofs.Common.{◌≡◌, ℕ, ◌<◌, List, length, get_or, ap, subst, ◌∙◌, arith}
use Rattle.std.proofs.lemmas.List.{with_items_is}
use Rattle.repl_sync.specs.declared.holding.Holding.{Holding}
use Rattle.repl_sync.specs.State.{Ticket}
use Rattle.repl_sync.specs.Inside.{CancelledOne, tickets_of, with_tickets}
use Rattle.repl_sync.proofs.Held.{all_cancelled}
use Rattle.repl_sync.proofs.ticket.cancel_all.Goals as goal

pub returns-clause-cancelled : goal.returns-clause-cancelled
returns-clause-cancelled c =
    let p = c.args.parts.now in
    let hs = p.holdings in
    let news = c.cancel_each.new.holdings in
    let size : length news ≡ hs.len = omega arith in
    let each = subst (λ (xs : List Holding). (k : ℕ) (d : Holding) → k < length xs → CancelledOne (get_or xs k d) (get_or news k d))
    c.deref_mut.ensures.value c.cancel_each.ensures in
    ap (λ (ts : List Ticket). with_tickets p ts) (ap tickets_of (with_items_is hs news size)
    ∙ all_cancelled hs.items news (omega arith) each)
