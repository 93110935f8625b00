-- What `reserve` ensures.
use Rattle.std.proofs.Common.{◌≡◌, List, length, refl, ap, subst, ◌∙◌, arith}
use Rattle.std.proofs.lemmas.List.{with_items_is}
use Rattle.repl_sync.specs.declared.holding.Holding.{Holding}
use Rattle.repl_sync.specs.Inside.{tickets_of}
use Rattle.repl_sync.proofs.Rooms.{EachRefitted, same_tickets}
use Rattle.repl_sync.proofs.prepare.reserve.Goals as goal

pub returns-clause-same : goal.returns-clause-same
returns-clause-same c =
    let hs = c.args.parts.now.holdings in
    let news = c.make_rooms.new.holdings in
    let size : length news ≡ hs.len = omega arith in
    let each : EachRefitted c.args.count c.args.longest hs.items news =
    subst (λ (xs : List Holding). EachRefitted c.args.count c.args.longest xs news) c.deref_mut.ensures.value c.make_rooms.ensures.each in
    record {
      entries = refl;
      list = refl;
      last = refl;
      tickets = ap tickets_of (with_items_is hs news size) ∙ same_tickets c.args.count c.args.longest hs.items news (omega arith) each;
    }
