-- What `is_prepared` ensures.
use Rattle.std.proofs.Common.{refl}
use Rattle.repl_sync.specs.declared.holding.Progress.TheVariants as progress
use Rattle.repl_sync.specs.Inside.{tickets_of}
use Rattle.repl_sync.proofs.Held.{Found, fate_found, no_fate, no_ticket}
use Rattle.repl_sync.proofs.Begun.{not_prepared, nothing_prepared}
use Rattle.repl_sync.proofs.ticket.is_prepared.Goals as goal

pub returns-in-Prepared : goal.returns-in-Prepared
returns-in-Prepared c =
    let hs = c.args.parts.now.holdings.items in
    let f : Found c.args.ticket c.place_of_ticket.result c.in-Some.place c.deref.result.now hs = record {
      is = c.in-Some.is;
      same = c.deref.ensures.value;
      found = c.place_of_ticket.ensures;
      turn = c.requires.ready.in_turn;
    } in (
      λ _. fate_found c.args.ticket c.place_of_ticket.result c.in-Some.place c.deref.result.now hs c.index.result.now progress.Prepared f
          c.index.ensures c.in-Prepared.is,
      λ _. refl,
    )

pub returns-in_default : goal.returns-in_default
returns-in_default c =
    let hs = c.args.parts.now.holdings.items in
    let f : Found c.args.ticket c.place_of_ticket.result c.in-Some.place c.deref.result.now hs = record {
      is = c.in-Some.is;
      same = c.deref.ensures.value;
      found = c.place_of_ticket.ensures;
      turn = c.requires.ready.in_turn;
    } in
    let fate = fate_found c.args.ticket c.place_of_ticket.result c.in-Some.place c.deref.result.now hs c.index.result.now
    c.index.result.now.progress f c.index.ensures refl in (
      λ no. absurd (cc no),
      λ some. absurd (not_prepared c.args.ticket (tickets_of hs) c.index.result.now.progress c.index.result.now fate
          c.in_default.not-Prepared some),
    )

pub returns-in-None : goal.returns-in-None
returns-in-None c =
    let none = no_fate c.args.parts.now.holdings.items c.args.ticket
    (no_ticket c.args.ticket c.place_of_ticket.result c.deref.result.now c.args.parts.now.holdings.items c.in-None.is c.deref.ensures.value
    c.place_of_ticket.ensures) in
    (λ no. absurd (cc no), λ some. absurd (nothing_prepared c.args.ticket (tickets_of c.args.parts.now.holdings.items) none some))
