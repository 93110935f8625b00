-- The timeline that holds a position, as a function, and the timelines among those of a path.
use Rattle.std.proofs.Common.{◌≡◌, ℕ, ◌<◌, ◌≤◌, List, [], ◌∷◌, ◌++◌, Option, Some, None, length, get_or, take, map, append_assoc, length-append, ◌+◌, refl, sym, ap, subst, ◌∙◌, inl, inr, ◌⊎◌, ⊎_elim, arith}
use Rattle.std.proofs.lemmas.Bool.{cases_lt}
use Rattle.std.proofs.lemmas.Bool.Decides.{nat_tests}
use Rattle.std.proofs.lemmas.List.{map-append, get_or_at}
use Rattle.std.proofs.Math.Seq.{take-append_seam}
use Rattle.repl_lsn.specs.declared.history.Part.{Part}
use Rattle.repl_lsn.specs.History.{Path, IsPath, InOrder, last_switch}
use Rattle.repl_lsn.specs.Path.{Holds, IsBelow, IsOn, EndsAt, IsChild, IsUpTo, IsNext, StandsPast, step, steps, holder, timeline_at, first_of}
use Rattle.repl_lsn.proofs.Timelines.{one_on}
use Rattle.repl_lsn.proofs.Relations.{on_child}

holder_here : (own : ℕ) (p : Part) (ps : List Part) (at : ℕ) → at < p.switch → holder own (p ∷ ps) at ≡ p.tli
holder_here own p ps at h = grind (arith, nat_tests)

holder_past : (own : ℕ) (p : Part) (ps : List Part) (at : ℕ) → p.switch ≤ at → holder own (p ∷ ps) at ≡ holder own ps at
holder_past own p ps at h = grind (arith, nat_tests)

-- ---- it holds the position

held : (own origin : ℕ) (ps : List Part) (at : ℕ) → origin ≤ at
    → (start : ℕ) × (end : Option ℕ) × Holds origin ps own (holder own ps at) start end × (start ≤ at) × IsBelow at end
held own origin [] at h = (origin, None, (refl, refl, refl), h, tt)
held own origin (p ∷ ps) at h =
    ⊎_elim
    (λ (l : at < p.switch). (origin, Some p.switch, inl (holder_here own p ps at l, refl, refl), h, l))
    (λ (l : p.switch ≤ at).
    let r = held own p.switch ps at l in
    (r.0, r.1, inr (subst (λ n. Holds p.switch ps own n r.0 r.1) (sym (holder_past own p ps at l)) r.2), r.3, r.4))
    (cases_lt at p.switch)

pub holder_on : (path : Path) (at : ℕ) → IsOn path (timeline_at path at) at
holder_on path at =
    let r = held path.own 0 path.parents at (omega arith) in
    record { start = r.0; end = r.1; holds = r.2; from = r.3; below = r.4 }

pub is_holder : (path : Path) (tli at : ℕ) → IsPath path → IsOn path tli at → tli ≡ timeline_at path at
is_holder path tli at order on = one_on path at tli (timeline_at path at) order on (holder_on path at)

-- ---- at and above the last switch point

first_below_last : (own : ℕ) (p : Part) (ps : List Part) → InOrder own (p ∷ ps) → p.switch ≤ last_switch (p ∷ ps)
first_below_last own p [] order = omega arith
first_below_last own p (q ∷ ps) order = omega (arith, order.1, first_below_last own q ps order.2)

pub own_holder : (own : ℕ) (ps : List Part) (at : ℕ) → InOrder own ps → last_switch ps ≤ at → holder own ps at ≡ own
own_holder own [] at order h = refl
own_holder own (p ∷ []) at order h = holder_past own p [] at h
own_holder own (p ∷ q ∷ ps) at order h =
    holder_past own p (q ∷ ps) at (omega (arith, order.1, first_below_last own q ps order.2)) ∙ own_holder own (q ∷ ps) at order.2 h

-- ---- a child agrees

pub child_holder : (a b : Path) (switch at : ℕ) → IsPath b → IsChild a b switch → at < switch → timeline_at a at ≡ timeline_at b at
child_holder a b switch at order child h =
    is_holder b (timeline_at a at) at order (on_child a b switch at (timeline_at a at) child h (holder_on a at))

-- ---- a path up to one of its timelines

pub order_up_to : (own : ℕ) (before : List Part) (p : Part) (after : List Part) → InOrder own (before ++ p ∷ after) → InOrder p.tli before
order_up_to own [] p after order = tt
order_up_to own (q ∷ []) p after order = order.0
order_up_to own (q ∷ r ∷ before) p after order = (order.0, order.1, order_up_to own (r ∷ before) p after order.2)

pub up_to_path : (path history : Path) (tli : ℕ) → IsPath path → IsUpTo path tli history
    → IsPath history × ((history ≡ path) ⊎ ((switch : ℕ) × EndsAt path tli switch × IsChild history path switch))
up_to_path path history tli order up =
    ⊎_elim
    (λ (same : history ≡ path). (subst IsPath (sym same) order, inl same))
    (λ (more : (p : Part) × (after : List Part) × (path.parents ≡ history.parents ++ p ∷ after) × (p.tli ≡ tli)).
    let p = more.0 in
    let number : p.tli ≡ history.own = more.3 ∙ sym up.own in
    let before = order_up_to path.own history.parents p more.1 (subst (InOrder path.own) more.2 order) in
    let child : IsChild history path p.switch = (
      map step more.1,
      ap (map step) more.2 ∙ map-append step history.parents (p ∷ more.1)
          ∙ ap (λ n. steps history ++ record { tli = n; switch = p.switch } ∷ map step more.1) number,
    ) in
    (subst (λ n. InOrder n history.parents) number before, inr (p.switch, (history.parents, p, more.1, more.2, more.3, refl), child)))
    up.begins

-- ---- the next timeline

next_holds : (own origin : ℕ) (before : List Part) (p : Part) (after : List Part)
    → (end : Option ℕ) × Holds origin (before ++ p ∷ after) own (first_of own after) p.switch end
next_holds own origin [] p [] = (None, inr (refl, refl, refl))
next_holds own origin [] p (q ∷ after) = (Some q.switch, inr (inl (refl, refl, refl)))
next_holds own origin (q ∷ before) p after = let r = next_holds own q.switch before p after in (r.0, inr r.1)

pub next_starts : (path : Path) (tli next : ℕ) → IsNext path tli next
    → (switch : ℕ) × (end : Option ℕ) × EndsAt path tli switch × Holds 0 path.parents path.own next switch end
next_starts path tli next h =
    let p = h.1 in
    let r = next_holds path.own 0 h.0 p h.2 in
    let there = subst (λ n. Holds 0 (h.0 ++ p ∷ h.2) path.own n p.switch r.0) (sym h.5) r.1 in
    (p.switch, r.0, (h.0, p, h.2, h.3, h.4, refl), subst (λ ps. Holds 0 ps path.own next p.switch r.0) (sym h.3) there)

-- ---- a timeline that was left, by how many stand before it

stands_before : (path : Path) (tli place : ℕ) (h : StandsPast path tli place) → take place path.parents ≡ h.0
stands_before path tli place h =
    ap (take place) h.3 ∙ ap (λ n. take n (h.0 ++ h.1 ∷ h.2)) (sym h.5) ∙ take-append_seam h.0 (h.1 ∷ h.2)

pub stands_in_order : (path : Path) (tli place : ℕ) → IsPath path → StandsPast path tli place → InOrder tli (take place path.parents)
stands_in_order path tli place order h =
    let up = order_up_to path.own h.0 h.1 h.2 (subst (InOrder path.own) h.3 order) in
    subst (InOrder tli) (sym (stands_before path tli place h)) (subst (λ n. InOrder n h.0) h.4 up)

pub stands_up_to : (path history : Path) (tli place : ℕ) → StandsPast path tli place → history.own ≡ tli
    → history.parents ≡ take place path.parents → IsUpTo path tli history
stands_up_to path history tli place h own parents =
    let before : history.parents ≡ h.0 = parents ∙ stands_before path tli place h in
    record { own = own; begins = inr (h.1, h.2, h.3 ∙ ap (λ ps. ps ++ h.1 ∷ h.2) (sym before), h.4) }

next_at : (path : Path) (tli place : ℕ) (x p : Part) (before after : List Part) → path.parents ≡ before ++ p ∷ after → p.tli ≡ tli
    → length before ≡ place → place + 1 < length path.parents → x ≡ get_or path.parents (place + 1) x → IsNext path tli x.tli
next_at path tli place x p before [] parts number size more at =
    absurd (omega (arith, ap length parts, length-append before (p ∷ [])))
next_at path tli place x p before (q ∷ after) parts number size more at =
    let cut : path.parents ≡ (before ++ p ∷ []) ++ q ∷ after = parts ∙ sym (append_assoc before (p ∷ []) (q ∷ after)) in
    let front : length (before ++ p ∷ []) ≡ place + 1 = omega (arith, length-append before (p ∷ [])) in
    let is : x ≡ q = at ∙ ap (λ ps. get_or ps (place + 1) x) cut ∙ get_or_at (before ++ p ∷ []) q after x (place + 1) front in
    (before, p, q ∷ after, parts, number, ap (λ (r : Part). r.tli) is)

pub stands_next : (path : Path) (tli place : ℕ) (x : Part) → StandsPast path tli place → place + 1 < length path.parents
    → x ≡ get_or path.parents (place + 1) x → IsNext path tli x.tli
stands_next path tli place x h more at = next_at path tli place x h.1 h.0 h.2 h.3 h.4 h.5 more at

own_next : (path : Path) (tli place : ℕ) (p : Part) (before after : List Part) → path.parents ≡ before ++ p ∷ after → p.tli ≡ tli
    → length before ≡ place → length path.parents ≤ place + 1 → IsNext path tli path.own
own_next path tli place p before [] parts number size last = (before, p, [], parts, number, refl)
own_next path tli place p before (q ∷ after) parts number size last =
    absurd (omega (arith, ap length parts, length-append before (p ∷ q ∷ after)))

pub stands_last : (path : Path) (tli place : ℕ) → StandsPast path tli place → length path.parents ≤ place + 1 → IsNext path tli path.own
stands_last path tli place h last = own_next path tli place h.1 h.0 h.2 h.3 h.4 h.5 last
