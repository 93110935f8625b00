-- What `look` ensures.
use Rattle.std.proofs.Common.{List, Some, refl, sym, ap, subst, ◌∙◌}
use Rattle.repl_sync.specs.declared.certificate.Certificate.{Certificate}
use Rattle.repl_sync.specs.declared.holding.Progress.TheVariants as progress
use Rattle.repl_sync.specs.State.{Ticket, Released}
use Rattle.repl_sync.specs.Sync.{HasNoAnswer, IsWaiting}
use Rattle.repl_sync.specs.Inside.{with_tickets}
use Rattle.repl_sync.proofs.Held.{Found, fate_again, fate_found, no_fate, no_ticket, rest_found}
use Rattle.repl_sync.proofs.ticket.look.Goals as goal

pub returns-in_default-clause-answered : goal.returns-in_default-clause-answered
returns-in_default-clause-answered c = (
  subst HasNoAnswer (sym (no_fate c.args.parts.now.holdings.items c.args.ticket
      (no_ticket c.args.ticket c.place_of_ticket.result c.deref.result.now c.args.parts.now.holdings.items c.in_default.is
      c.deref.ensures.value
      c.place_of_ticket.ensures))) tt,
  refl,
)

pub returns-in-Prepared-clause-answered : goal.returns-in-Prepared-clause-answered
returns-in-Prepared-clause-answered c =
    let hs = c.args.parts.now.holdings.items in
    let f : Found c.args.ticket c.place_of_ticket.result c.in-Some.place c.deref.result.now hs = record {
      is = c.in-Some.is;
      same = c.deref.ensures.value;
      found = c.place_of_ticket.ensures;
      turn = c.requires.ready.in_turn;
    } in (
      subst HasNoAnswer (sym (fate_found c.args.ticket c.place_of_ticket.result c.in-Some.place c.deref.result.now hs c.index.result.now
          progress.Prepared f c.index.ensures c.in-Prepared.is)) tt,
      refl,
    )

pub returns-in-Waiting-clause-answered : goal.returns-in-Waiting-clause-answered
returns-in-Waiting-clause-answered c =
    let hs = c.args.parts.now.holdings.items in
    let f : Found c.args.ticket c.place_of_ticket.result c.in-Some.place c.deref.result.now hs = record {
      is = c.in-Some.is;
      same = c.deref.ensures.value;
      found = c.place_of_ticket.ensures;
      turn = c.requires.ready.in_turn;
    } in (
      subst IsWaiting (sym (fate_found c.args.ticket c.place_of_ticket.result c.in-Some.place c.deref.result.now hs c.index.result.now
          (progress.Waiting c.in-Waiting.field-0 c.in-Waiting.field-1) f c.index.ensures c.in-Waiting.is)) tt,
      refl,
    )

pub returns-in-Released-clause-answered : goal.returns-in-Released-clause-answered
returns-in-Released-clause-answered c =
    let hs = c.args.parts.now.holdings.items in
    let f : Found c.args.ticket c.place_of_ticket.result c.in-Some.place c.deref.result.now hs = record {
      is = c.in-Some.is;
      same = c.deref.ensures.value;
      found = c.place_of_ticket.ensures;
      turn = c.requires.ready.in_turn;
    } in
    let h = c.remove-holding.result in (
      fate_again c.args.ticket c.place_of_ticket.result c.in-Some.place c.deref.result.now hs c.index.result.now h
          (progress.Released c.in-Released.end c.in-Released.mode) f c.index.ensures c.remove-holding.ensures.value c.in-Released.is
          ∙ ap (λ (x : Certificate). Some (Released x)) (sym c.certificate.ensures),
      ap (λ (ts : List Ticket). with_tickets c.args.parts.now ts) (rest_found c.args.ticket c.place_of_ticket.result c.in-Some.place
          c.deref.result.now hs
          c.remove-holding.new.self.items f c.remove-holding.ensures.items),
    )

pub returns-in-Cancelled-clause-answered : goal.returns-in-Cancelled-clause-answered
returns-in-Cancelled-clause-answered c =
    let hs = c.args.parts.now.holdings.items in
    let f : Found c.args.ticket c.place_of_ticket.result c.in-Some.place c.deref.result.now hs = record {
      is = c.in-Some.is;
      same = c.deref.ensures.value;
      found = c.place_of_ticket.ensures;
      turn = c.requires.ready.in_turn;
    } in (
      fate_found c.args.ticket c.place_of_ticket.result c.in-Some.place c.deref.result.now hs c.index.result.now progress.Cancelled f
          c.index.ensures c.in-Cancelled.is,
      ap (λ (ts : List Ticket). with_tickets c.args.parts.now ts) (rest_found c.args.ticket c.place_of_ticket.result c.in-Some.place
          c.deref.result.now hs
          c.remove-gone.new.self.items f c.remove-gone.ensures.items),
    )
