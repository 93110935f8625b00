-- What `cancel` ensures.
use Rattle.std.proofs.Common.{List, set, refl, ap}
use Rattle.repl_sync.specs.declared.holding.Progress.TheVariants as progress
use Rattle.repl_sync.specs.declared.holding.Holding.{Holding}
use Rattle.repl_sync.specs.State.{Ticket, Prepared}
use Rattle.repl_sync.specs.Inside.{fate_in, with_tickets}
use Rattle.repl_sync.proofs.Held.{Found, cancelled_found, fate_found, kept_gone, kept_set, no_fate, no_ticket, progress_again, rest_found, stands}
use Rattle.repl_sync.proofs.ticket.cancel.Goals as goal

pub returns-in_default-clause-cancelled : goal.returns-in_default-clause-cancelled
returns-in_default-clause-cancelled c = (
  no_fate c.args.parts.now.holdings.items c.args.ticket
      (no_ticket c.args.ticket c.place_of_ticket.result c.deref.result.now c.args.parts.now.holdings.items c.in_default.is
      c.deref.ensures.value
      c.place_of_ticket.ensures),
  refl,
)

pub returns-in-Prepared-clause-kept : goal.returns-in-Prepared-clause-kept
returns-in-Prepared-clause-kept c =
    let hs = c.args.parts.now.holdings.items in
    let f : Found c.args.ticket c.place_of_ticket.result c.in-Some.place c.deref.result.now hs = record {
      is = c.in-Some.is;
      same = c.deref.ensures.value;
      found = c.place_of_ticket.ensures;
      turn = c.requires.ready.in_turn;
    } in
    kept_gone c.args.parts.now c.remove-gone.new.self c.in-Some.place c.requires
    (stands c.args.ticket c.place_of_ticket.result c.in-Some.place c.deref.result.now hs f).0 c.remove-gone.ensures.items

pub returns-in-Prepared-clause-cancelled : goal.returns-in-Prepared-clause-cancelled
returns-in-Prepared-clause-cancelled c =
    let hs = c.args.parts.now.holdings.items in
    let f : Found c.args.ticket c.place_of_ticket.result c.in-Some.place c.deref.result.now hs = record {
      is = c.in-Some.is;
      same = c.deref.ensures.value;
      found = c.place_of_ticket.ensures;
      turn = c.requires.ready.in_turn;
    } in (
      Prepared,
      fate_found c.args.ticket c.place_of_ticket.result c.in-Some.place c.deref.result.now hs c.index.result.now progress.Prepared f
          c.index.ensures c.in-Prepared.is,
      ap (λ (ts : List Ticket). with_tickets c.args.parts.now ts) (rest_found c.args.ticket c.place_of_ticket.result c.in-Some.place
          c.deref.result.now hs
          c.remove-gone.new.self.items f c.remove-gone.ensures.items),
    )

pub returns-in_default-progress : goal.returns-in_default-progress
returns-in_default-progress c =
    let hs = c.args.parts.now.holdings.items in
    let f : Found c.args.ticket c.place_of_ticket.result c.in-Some.place c.deref.result.now hs = record {
      is = c.in-Some.is;
      same = c.deref.ensures.value;
      found = c.place_of_ticket.ensures;
      turn = c.requires.ready.in_turn;
    } in
    let h = c.index_mut.result.now in
    let other = progress_again c.args.ticket c.place_of_ticket.result c.in-Some.place c.deref.result.now hs c.index.result.now h
    progress.Prepared f
    c.index.ensures c.index_mut.ensures.value c.in_default-progress.not-Prepared in
    record {
      kept = kept_set c.args.parts.now _ c.in-Some.place h c.requires (stands c.args.ticket c.place_of_ticket.result c.in-Some.place
          c.deref.result.now hs f).0
          c.index_mut.ensures.value (ap (λ (x : Holding). set hs c.in-Some.place x) c.cancel_one.ensures);
      cancelled = (
        fate_in h.progress h,
        fate_found c.args.ticket c.place_of_ticket.result c.in-Some.place c.deref.result.now hs h h.progress f c.index_mut.ensures.value
            refl,
        ap (λ (ts : List Ticket). with_tickets c.args.parts.now ts)
            (cancelled_found c.args.ticket c.place_of_ticket.result c.in-Some.place c.deref.result.now hs h c.cancel_one.new.holding f
            c.index_mut.ensures.value other c.cancel_one.ensures),
      );
    }
