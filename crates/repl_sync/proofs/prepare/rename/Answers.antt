-- What `rename` needs and ensures.
use Rattle.std.proofs.Common.{◌≡◌, ◌≤◌, List, length, min, All, vec_len, sym, ap, subst, ◌∙◌, arith}
use Rattle.std.specs.Vec.{with_items}
use Rattle.std.proofs.lemmas.List.{with_items_is}
use Rattle.repl_names.specs.StandbyList.{Listing}
use Rattle.repl_sync.specs.declared.session.Entry.{Entry}
use Rattle.repl_sync.specs.declared.holding.Holding.{Holding}
use Rattle.repl_sync.specs.State.{State}
use Rattle.repl_sync.specs.Sync.{Releases}
use Rattle.repl_sync.specs.Inside.{IsReady, state_of}
use Rattle.repl_sync.proofs.Rooms.{EachRanked, EachRelisted, least_of_max, ready_renamed, renamed_state}
use Rattle.repl_sync.proofs.prepare.rename.Goals as goal

pub release-requires : goal.release-requires
release-requires c =
    let p = c.args.parts.now in
    let q = c.reserve.new.parts in
    let list = c.args.list.now in
    let moved = λ (P : List Entry → Type 0) (h : P p.entries.items). subst (λ (v : _). P v.items) (sym c.reserve.ensures.same.entries) h in
    let news = c.rank_each.new.entries in
    let size : length news ≡ q.entries.len = omega arith in
    let olds : length q.entries.items ≡ q.entries.len = omega (arith, c.deref_mut.ensures.len, ap length c.deref_mut.ensures.value) in
    let ranks : EachRanked list q.entries.items news =
    subst (λ (xs : List Entry). EachRanked list xs news) c.deref_mut.ensures.value c.rank_each.ensures in
    let held = c.relist_each.new.holdings in
    let size2 : length held ≡ q.holdings.len = omega arith in
    let olds2 : length q.holdings.items ≡ q.holdings.len = omega (arith, c.deref_mut-2.ensures.len, ap length c.deref_mut-2.ensures.value)
    in
    let lists : EachRelisted list q.holdings.items held =
    subst (λ (xs : List Holding). EachRelisted list xs held) c.deref_mut-2.ensures.value (c.relist_each.ensures list
    c.in_ok-copies.ensures.same) in
    let many : vec_len p.entries ≡ length p.entries.items = omega (arith, c.deref.ensures.len, ap length c.deref.ensures.value) in
    let least = least_of_max c.number.result c.number-2.result c.len-2.result c.max-number.result c.min-count.result c.max-number.ensures
    c.min-count.ensures in
    let few : min list.number (length p.entries.items) ≤ c.min-count.result =
    subst (λ n. min list.number n ≤ c.min-count.result) (c.len-2.ensures ∙ many)
    (subst (λ n. min n c.len-2.result ≤ c.min-count.result) c.number-2.ensures.value least) in
    let short : All (λ e. length e.name ≤ c.longest_name-longest.result) p.entries.items =
    subst (λ (xs : List Entry). All (λ e. length e.name ≤ c.longest_name-longest.result) xs) c.deref.ensures.value
    c.longest_name-longest.ensures in
    subst (λ (l : Listing). IsReady (record {
      entries = with_items q.entries news;
      list = l;
      holdings = with_items q.holdings held;
      last = q.last;
      order = q.order;
    })) (sym c.in_ok-own.ensures)
    (ready_renamed q (with_items q.entries news) (with_items q.holdings held) list c.min-count.result c.longest_name-longest.result
    c.reserve.ensures.kept c.number-2.ensures.listing
    (ap length (with_items_is q.entries news size) ∙ size ∙ sym olds)
    (subst (λ (xs : List Entry). EachRanked list q.entries.items xs) (sym (with_items_is q.entries news size)) ranks)
    (ap length (with_items_is q.holdings held size2) ∙ size2 ∙ sym olds2)
    (subst (λ (xs : List Holding). EachRelisted list q.holdings.items xs) (sym (with_items_is q.holdings held size2)) lists)
    (moved (λ xs. min list.number (length xs) ≤ c.min-count.result) few)
    (moved (λ xs. All (λ e. length e.name ≤ c.longest_name-longest.result) xs) short)
    c.in_ok-reserve.ensures.places)

pub returns-clause-renamed : goal.returns-clause-renamed
returns-clause-renamed c =
    let p = c.args.parts.now in
    let q = c.reserve.new.parts in
    let list = c.args.list.now in
    let news = c.rank_each.new.entries in
    let size : length news ≡ q.entries.len = omega arith in
    let olds : length q.entries.items ≡ q.entries.len = omega (arith, c.deref_mut.ensures.len, ap length c.deref_mut.ensures.value) in
    let ranks : EachRanked list q.entries.items news =
    subst (λ (xs : List Entry). EachRanked list xs news) c.deref_mut.ensures.value c.rank_each.ensures in
    let held = c.relist_each.new.holdings in
    let size2 : length held ≡ q.holdings.len = omega arith in
    let olds2 : length q.holdings.items ≡ q.holdings.len = omega (arith, c.deref_mut-2.ensures.len, ap length c.deref_mut-2.ensures.value)
    in
    let lists : EachRelisted list q.holdings.items held =
    subst (λ (xs : List Holding). EachRelisted list xs held) c.deref_mut-2.ensures.value (c.relist_each.ensures list
    c.in_ok-copies.ensures.same) in
    let own = subst (λ (l : Listing). Releases (state_of (record {
      entries = with_items q.entries news;
      list = l;
      holdings = with_items q.holdings held;
      last = q.last;
      order = q.order;
    })) (state_of c.release.new.parts)) c.in_ok-own.ensures c.release.ensures.released in
    subst (λ (s : State). Releases s (state_of c.release.new.parts))
    (renamed_state p q (with_items q.entries news) (with_items q.holdings held) list c.reserve.ensures.same
    (ap length (with_items_is q.entries news size) ∙ size ∙ sym olds)
    (subst (λ (xs : List Entry). EachRanked list q.entries.items xs) (sym (with_items_is q.entries news size)) ranks)
    (ap length (with_items_is q.holdings held size2) ∙ size2 ∙ sym olds2)
    (subst (λ (xs : List Holding). EachRelisted list q.holdings.items xs) (sym (with_items_is q.holdings held size2)) lists)) own
