-- What `connect` needs and ensures.
use Rattle.std.proofs.Common.{◌≡◌, ◌≢◌, ◌+◌, ◌≤◌, ℕ, List, [], ◌∷◌, ◌++◌, length, min, All, vec_len, vec_capacity, refl, sym, ap, subst, ◌∙◌, arith}
use Rattle.repl_sync.specs.declared.session.Entry.{Entry}
use Rattle.repl_sync.specs.State.{State}
use Rattle.repl_sync.specs.Sync.{Releases}
use Rattle.repl_sync.specs.Inside.{entry_of, state_of}
use Rattle.repl_sync.proofs.Places.{found_known, found_none}
use Rattle.repl_sync.proofs.Sessions.{known_not}
use Rattle.repl_sync.proofs.Rooms.{below_max, below_max_right, connected_state, ready_connected}
use Rattle.repl_sync.proofs.prepare.connect.Goals as goal

pub returns-then-is_some-clause-connected : goal.returns-then-is_some-clause-connected
returns-then-is_some-clause-connected c = (
  found_known c.args.session c.place_of.result c.deref.result.now c.args.parts.now.entries.items (sym c.is_some.ensures ∙ c.if-is_some.true)
      c.deref.ensures.value c.place_of.ensures,
  refl,
)

pub release-requires : goal.release-requires
release-requires c =
    let p = c.args.parts.now in
    let q = c.reserve.new.parts in
    let same = c.reserve.ensures.same in
    let n = c.args.session in
    let name = c.args.name.now in
    let es = p.entries.items in
    let longest = c.max-longest.result in
    let moved = λ (P : List Entry → Type 0) (h : P es). subst (λ (v : _). P v.items) (sym same.entries) h in
    let items : c.push.new.self.items ≡ q.entries.items ++ entry_of n name q.list ∷ [] =
    c.in_ok-push.ensures.items
    ∙ ap (λ (x : Entry). q.entries.items ++ x ∷ []) (c.new_entry-entry.ensures
    ∙ ap (λ (m : List ℕ). entry_of n m q.list) c.in_ok-name.ensures) in
    let size : vec_len p.entries ≡ length es = omega (arith, c.deref.ensures.len, ap length c.deref.ensures.value) in
    let count : c.min-count.result ≡ min p.list.number (length es + 1) =
    c.min-count.ensures ∙ ap (λ m. min m (c.len-2.result + 1)) c.number.ensures.value
    ∙ ap (λ m. min p.list.number (m + 1)) (c.len-2.ensures ∙ size) in
    let few : min q.list.number (length q.entries.items + 1) ≤ c.min-count.result =
    subst (λ (l : _). min l.number (length q.entries.items + 1) ≤ c.min-count.result) (sym same.list)
    (moved (λ xs. min p.list.number (length xs + 1) ≤ c.min-count.result) (omega arith)) in
    let all : All (λ e. length e.name ≤ c.longest_name.result) es =
    subst (λ (xs : List Entry). All (λ e. length e.name ≤ c.longest_name.result) xs) c.deref-2.ensures.value c.longest_name.ensures in
    let short : All (λ e. length e.name ≤ longest) es = λ k d l. below_max _ c.longest_name.result c.len.result longest (all k d l)
    c.max-longest.ensures in
    let fits : length name ≤ longest =
    subst (λ (m : List ℕ). length m ≤ longest) c.in_ok-name.ensures
    (subst (λ (m : ℕ). m ≤ longest) c.len.ensures (below_max_right c.longest_name.result c.len.result longest c.max-longest.ensures)) in
    let other = found_none n c.place_of.result c.deref.result.now es (sym c.is_some.ensures ∙ c.if-is_some.false) c.deref.ensures.value
    c.place_of.ensures in
    ready_connected q c.push.new.self n name c.min-count.result longest c.reserve.ensures.kept items
    (moved (λ xs. All (λ e. e.candidate.session ≢ n) xs) other)
    (moved (λ xs. length xs + 1 ≤ vec_capacity q.order) c.in_ok-reserve.ensures.room)
    c.in_ok-reserve.ensures.places few (moved (λ xs. All (λ e. length e.name ≤ longest) xs) short) fits

pub returns-clause-connected : goal.returns-clause-connected
returns-clause-connected c =
    let p = c.args.parts.now in
    let q = c.reserve.new.parts in
    let n = c.args.session in
    let name = c.args.name.now in
    let items : c.push.new.self.items ≡ q.entries.items ++ entry_of n name q.list ∷ [] =
    c.in_ok-push.ensures.items
    ∙ ap (λ (x : Entry). q.entries.items ++ x ∷ []) (c.new_entry-entry.ensures
    ∙ ap (λ (m : List ℕ). entry_of n m q.list) c.in_ok-name.ensures) in
    let other = found_none n c.place_of.result c.deref.result.now p.entries.items (sym c.is_some.ensures ∙ c.if-is_some.false)
    c.deref.ensures.value c.place_of.ensures in (
      known_not p.entries.items n other,
      subst (λ (s : State). Releases s (state_of c.release.new.parts)) (connected_state p q c.push.new.self n name c.reserve.ensures.same
          items)
          c.release.ensures.released,
    )
