-- What `begin` ensures.
use Rattle.std.proofs.Common.{List, Some, refl, sym, ap, subst, ◌∙◌}
use Rattle.repl_sync.specs.declared.holding.Progress.{Progress}
use Rattle.repl_sync.specs.declared.holding.Holding.{Holding}
use Rattle.repl_sync.specs.State.{Ticket}
use Rattle.repl_sync.specs.Sync.{Releases}
use Rattle.repl_sync.specs.Inside.{begun, fate_in, state_of, tickets_of, with_tickets}
use Rattle.repl_sync.proofs.Held.{PlacedTicket, at_ticket, no_ticket, fate_at, no_fate, with_fate_at}
use Rattle.repl_sync.proofs.Begun.{begins, not_prepared, nothing_prepared}
use Rattle.repl_sync.proofs.ticket.begin.Goals as goal

pub returns-in_default-clause-begun : goal.returns-in_default-clause-begun
returns-in_default-clause-begun c = (
  nothing_prepared c.args.ticket (tickets_of c.args.parts.now.holdings.items)
      (no_fate c.args.parts.now.holdings.items c.args.ticket
      (no_ticket c.args.ticket c.place_of_ticket.result c.deref.result.now c.args.parts.now.holdings.items c.in_default.is
      c.deref.ensures.value c.place_of_ticket.ensures)),
  refl,
)

pub returns-in_default-progress : goal.returns-in_default-progress
returns-in_default-progress c =
    let hs = c.args.parts.now.holdings.items in
    let placed : PlacedTicket c.args.ticket c.in-Some.place hs =
    at_ticket c.args.ticket c.place_of_ticket.result c.in-Some.place c.deref.result.now hs c.in-Some.is c.deref.ensures.value
    c.place_of_ticket.ensures in
    record {
      kept = c.requires;
      begun = (
        not_prepared c.args.ticket (tickets_of hs) c.index.result.now.progress c.index.result.now
            (fate_at hs c.in-Some.place c.index.result.now c.args.ticket c.requires.ready.in_turn placed c.index.ensures)
            c.in_default-progress.not-Prepared,
        refl,
      );
    }

pub returns-clause-begun : goal.returns-clause-begun
returns-clause-begun c =
    let p = c.args.parts.now in
    let hs = p.holdings.items in
    let placed : PlacedTicket c.args.ticket c.in-Some.place hs =
    at_ticket c.args.ticket c.place_of_ticket.result c.in-Some.place c.deref.result.now hs c.in-Some.is c.deref.ensures.value
    c.place_of_ticket.ensures in
    let h = c.index_mut.result.now in
    let new : Holding = record h { progress = c.progress_of.result } in (
      fate_at hs c.in-Some.place c.index.result.now c.args.ticket c.requires.ready.in_turn placed c.index.ensures
          ∙ ap (λ (q : Progress). Some (fate_in q c.index.result.now)) c.in-Prepared.is,
      subst (λ (ts : List Ticket). Releases (with_tickets p ts) (state_of c.release.new.parts))
          (sym (with_fate_at hs c.in-Some.place new c.args.ticket (begun c.args.wait) c.requires.ready.in_turn placed
          (ap (λ (x : Holding). x.ticket) c.index_mut.ensures.value
          ∙ placed.1 h) (begins c.args.wait c.progress_of.result new c.progress_of.ensures)))
          c.release.ensures.released,
    )
