-- What `release` needs and ensures.
use Rattle.std.proofs.Common.{◌≡◌, ◌≤◌, List, length, map, refl, sym, subst, arith}
use Rattle.std.specs.List.{AllZip}
use Rattle.std.proofs.lemmas.List.{with_items_is}
use Rattle.repl_names.specs.declared.quorum.Candidate.{Candidate}
use Rattle.repl_names.specs.Quorum.{candidates}
use Rattle.repl_sync.specs.declared.session.Entry.{Entry}
use Rattle.repl_sync.specs.declared.holding.Holding.{Holding}
use Rattle.repl_sync.specs.Sync.{Settles}
use Rattle.repl_sync.specs.Inside.{IsOrder, SameByTests, candidate_of, sessions_of, ticket_of}
use Rattle.repl_sync.proofs.Moved.{in_order}
use Rattle.repl_sync.proofs.Tickets.{EachReleased, zip_released}
use Rattle.repl_sync.proofs.release.release.Goals as goal

pub release_each-requires-clause-order : goal.release_each-requires-clause-order
release_each-requires-clause-order c =
    let list = c.args.parts.now.list in
    let es = c.args.parts.now.entries.items in
    let order = c.put_in_order.new.order.items in
    let same = subst (λ (xs : List Entry). SameByTests (candidates (map candidate_of xs)) order) c.deref.ensures.value
    c.put_in_order.ensures.same in
    let few : length order ≤ length es = omega arith in
    subst (λ (xs : List Entry). IsOrder list xs c.deref-3.result.now) (sym c.deref-2.ensures.value)
    (subst (λ (xs : List Candidate). IsOrder list es xs) (sym c.deref-3.ensures.value)
    (in_order list es order c.requires.ranked c.requires.resting same c.put_in_order.ensures.ordered few))

pub returns-clause-released : goal.returns-clause-released
returns-clause-released c =
    let list = c.args.parts.now.list in
    let es = c.args.parts.now.entries.items in
    let olds = c.args.parts.now.holdings.items in
    let news = c.release_each.new.holdings in
    let size : length news ≡ c.args.parts.now.holdings.len = omega arith in
    let each : EachReleased list es olds news = subst (λ (xs : List Holding). EachReleased list es xs news) c.deref_mut.ensures.value
    (subst (λ (xs : List Entry). EachReleased list xs c.deref_mut.result.now news) c.deref-2.ensures.value c.release_each.ensures) in
    record {
      sessions = refl;
      list = refl;
      tickets = subst (λ (xs : List Holding). AllZip (Settles list (sessions_of es)) (map ticket_of olds) (map ticket_of xs))
          (sym (with_items_is c.args.parts.now.holdings news size)) (zip_released list es olds news (omega arith) each);
      last = refl;
    }
