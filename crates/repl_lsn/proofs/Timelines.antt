-- Which timeline of a path holds a position.
use Rattle.std.proofs.Common.{◌≡◌, ◌≢◌, ℕ, ◌+◌, ◌<◌, ◌≤◌, List, [], ◌∷◌, ◌++◌, Option, Some, length, get_or, take, drop, sym, ap, subst, ◌∙◌, inl, inr, ⊎_elim, arith}
use Rattle.std.proofs.lemmas.Bool.{cases_eq}
use Rattle.std.proofs.lemmas.List.{drop_more, take-append-drop, get_or_at, length-take-le}
use Rattle.repl_lsn.specs.declared.history.Part.{Part}
use Rattle.repl_lsn.specs.History.{Path, IsPath, InOrder, last_switch}
use Rattle.repl_lsn.specs.Path.{Holds, IsBelow, IsOn, EndsAt, StandsPast}

-- ---- numbers and switch points in order

pub order_past : (own : ℕ) (p : Part) (ps : List Part) → InOrder own (p ∷ ps) → InOrder own ps
order_past own p [] order = tt
order_past own p (q ∷ ps) order = order.2

-- a timeline after a parent has a greater number, and starts where the parent ends or later
pub number_past : (p : Part) (ps : List Part) (own origin tli start : ℕ) (end : Option ℕ) → InOrder own (p ∷ ps)
    → Holds origin ps own tli start end → p.tli < tli
number_past p [] own origin tli start end order holds = omega (arith, order, holds.0)
number_past p (q ∷ ps) own origin tli start end order (inl here) = omega (arith, order.0, here.0)
number_past p (q ∷ ps) own origin tli start end order (inr past) =
    omega (arith, order.0, number_past q ps own q.switch tli start end order.2 past)

pub start_past : (p : Part) (ps : List Part) (own tli start : ℕ) (end : Option ℕ) → InOrder own (p ∷ ps)
    → Holds p.switch ps own tli start end → p.switch ≤ start
start_past p [] own tli start end order holds = omega (arith, holds.1)
start_past p (q ∷ ps) own tli start end order (inl here) = omega (arith, here.1)
start_past p (q ∷ ps) own tli start end order (inr past) =
    omega (arith, order.1, start_past q ps own tli start end order.2 past)

-- so has a parent after it
pub parent_past : (p : Part) (before : List Part) (q : Part) (after : List Part) (own : ℕ) → InOrder own (p ∷ (before ++ q ∷ after))
    → p.tli < q.tli
parent_past p [] q after own order = order.0
parent_past p (r ∷ before) q after own order = omega (arith, order.0, parent_past r before q after own order.2)

-- the own timeline may be left after all parents
pub order_push : (own tli : ℕ) (ps : List Part) (p : Part) → InOrder own ps → p.tli ≡ own → own < tli → last_switch ps ≤ p.switch
    → InOrder tli (ps ++ p ∷ [])
order_push own tli [] p order number above past = omega arith
order_push own tli (q ∷ []) p order number above past = (omega (arith, order), past, omega arith)
order_push own tli (q ∷ r ∷ ps) p order number above past = (order.0, order.1, order_push own tli (r ∷ ps) p order.2 number above past)

-- ---- one timeline holds a position

below_end : (at end : ℕ) (o : Option ℕ) → o ≡ Some end → IsBelow at o → at < end
below_end at end o e below = subst (IsBelow at) e below

one_holder : (ps : List Part) (own origin at a b start-a start-b : ℕ) (end-a end-b : Option ℕ) → InOrder own ps
    → Holds origin ps own a start-a end-a → start-a ≤ at → IsBelow at end-a → Holds origin ps own b start-b end-b → start-b ≤ at
    → IsBelow at end-b → a ≡ b
one_holder [] own origin at a b start-a start-b end-a end-b order p from-a below-a q from-b below-b = cc
one_holder (x ∷ ps) own origin at a b start-a start-b end-a end-b order (inl p) from-a below-a (inl q) from-b below-b = cc
one_holder (x ∷ ps) own origin at a b start-a start-b end-a end-b order (inl p) from-a below-a (inr q) from-b below-b =
    absurd (omega (arith, below_end at x.switch end-a p.2 below-a, start_past x ps own b start-b end-b order q))
one_holder (x ∷ ps) own origin at a b start-a start-b end-a end-b order (inr p) from-a below-a (inl q) from-b below-b =
    absurd (omega (arith, below_end at x.switch end-b q.2 below-b, start_past x ps own a start-a end-a order p))
one_holder (x ∷ ps) own origin at a b start-a start-b end-a end-b order (inr p) from-a below-a (inr q) from-b below-b =
    one_holder ps own x.switch at a b start-a start-b end-a end-b (order_past own x ps order) p from-a below-a q from-b below-b

pub one_on : (path : Path) (at a b : ℕ) → IsPath path → IsOn path a at → IsOn path b at → a ≡ b
one_on path at a b order p q =
    one_holder path.parents path.own 0 at a b p.start q.start p.end q.end order p.holds p.from p.below q.holds q.from q.below

-- ---- and it is before that timeline's end

before_switch : (before : List Part) (p : Part) (after : List Part) (own origin at start : ℕ) (end : Option ℕ)
    → InOrder own (before ++ p ∷ after) → Holds origin (before ++ p ∷ after) own p.tli start end → IsBelow at end → at < p.switch
before_switch [] p after own origin at start end order (inl here) below = below_end at p.switch end here.2 below
before_switch [] p after own origin at start end order (inr past) below =
    absurd (omega (arith, number_past p after own p.switch p.tli start end order past))
before_switch (q ∷ before) p after own origin at start end order (inl here) below =
    absurd (omega (arith, here.0, parent_past q before p after own order))
before_switch (q ∷ before) p after own origin at start end order (inr past) below =
    before_switch before p after own q.switch at start end (order_past own q (before ++ p ∷ after) order) past below

pub before_end : (path : Path) (at tli end : ℕ) → IsPath path → IsOn path tli at → EndsAt path tli end → at < end
before_end path at tli end order on ends =
    let p = ends.1 in
    let parents : path.parents ≡ ends.0 ++ p ∷ ends.2 = ends.3 in
    let holds : Holds 0 path.parents path.own p.tli on.start on.end =
    subst (λ n. Holds 0 path.parents path.own n on.start on.end) (sym ends.4) on.holds in
    let below = before_switch ends.0 p ends.2 path.own 0 at on.start on.end (subst (InOrder path.own) parents order)
    (subst (λ ps. Holds 0 ps path.own p.tli on.start on.end) parents holds) on.below in
    subst (λ e. at < e) ends.5 below

-- ---- a walk over the parents, which stands at one of them

pub item_next : (ps : List Part) (i : ℕ) (x : Part) → i < length ps → x ≡ get_or ps i x → drop i ps ≡ x ∷ drop (i + 1) ps
item_next ps i x h e = drop_more ps i x h ∙ ap (λ y. y ∷ drop (i + 1) ps) (sym e)

pub item_stands : (path : Path) (i tli : ℕ) (x : Part) → i < length path.parents → x ≡ get_or path.parents i x → x.tli ≡ tli
    → StandsPast path tli i
item_stands path i tli x h e number =
    let parts : path.parents ≡ take i path.parents ++ x ∷ drop (i + 1) path.parents = sym (take-append-drop i path.parents)
    ∙ ap (λ qs. take i path.parents ++ qs) (item_next path.parents i x h e) in
    (take i path.parents, x, drop (i + 1) path.parents, parts, number, length-take-le i path.parents (omega arith))

-- a parent after that place, which is not at it, is after the next one
pub item_passed : (ps : List Part) (i tli : ℕ) (x : Part) → x ≡ get_or ps i x → x.tli ≢ tli
    → (before : List Part) (p : Part) (after : List Part) → ps ≡ before ++ p ∷ after → p.tli ≡ tli → i ≤ length before
    → i + 1 ≤ length before
item_passed ps i tli x e other before p after parts number h =
    ⊎_elim
    (λ (same : length before ≡ i).
    let is : x ≡ p = e ∙ ap (λ qs. get_or qs i x) parts ∙ get_or_at before p after x i same in
    absurd (other (ap (λ (q : Part). q.tli) is ∙ number)))
    (λ (apart : length before ≡ i → ⊥). omega arith)
    (cases_eq (length before) i)

pub item_holds : (ps : List Part) (own origin i : ℕ) (x : Part) → i < length ps → x ≡ get_or ps i x → (tli start : ℕ) (end : Option ℕ)
    → Holds origin (x ∷ drop (i + 1) ps) own tli start end → Holds origin (drop i ps) own tli start end
item_holds ps own origin i x h e tli start end holds = subst (λ qs. Holds origin qs own tli start end) (sym (item_next ps i x h e)) holds
