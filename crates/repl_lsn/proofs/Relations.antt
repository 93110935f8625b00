-- How paths stand to each other.
use Rattle.std.proofs.Common.{⊎_elim, ◌⊎◌, ◌≡◌, ℕ, zero, suc, ◌+◌, ◌<◌, ◌≤◌, List, [], ◌∷◌, ◌++◌, length, map, take, drop, Option, Some, refl, sym, ap, subst, ◌∙◌, inl, inr, arith, get_or, length-append}
use Rattle.std.proofs.lemmas.List.{append_cancel_left, map-append, length-map, take_more_same, take_all, drop_all, drop_more, drop-map, drop-append-le, take-append-drop, get_or_at}
use Rattle.std.proofs.lemmas.Bool.{cases_lt}
use Rattle.repl_lsn.specs.declared.history.Part.{Part}
use Rattle.repl_lsn.specs.declared.relation.Relation.{Relation}
use Rattle.repl_lsn.specs.declared.relation.Relation.TheVariants as relation
use Rattle.repl_lsn.specs.History.{Path}
use Rattle.repl_lsn.specs.Path.{Step, step, steps, IsChild, DifferAt, IsRelation, Holds, IsBelow, IsOn}

-- ---- a path and its child

pub child_longer : (a b : Path) (switch : ℕ) → IsChild a b switch → length (steps a) < length (steps b)
child_longer a b switch child =
    let s : Step = record { tli = a.own; switch = switch } in
    omega (arith, ap length child.1, length-append (steps a) (s ∷ child.0))

pub one_child : (a b : Path) (s t : ℕ) → IsChild a b s → IsChild a b t → s ≡ t
one_child a b s t p q =
    let left : Step = record { tli = a.own; switch = s } in
    let right : Step = record { tli = a.own; switch = t } in
    let e = append_cancel_left (steps a) (left ∷ p.0) (right ∷ q.0) (sym p.1 ∙ q.1) in
    let one : left ≡ right = cc in
    ap (λ (x : Step). x.switch) one

pub promotion_is_child : (path : Path) (p : Part) (own : ℕ) → p.tli ≡ path.own
    → IsChild path (record { own = own; parents = path.parents ++ p ∷ [] }) p.switch
promotion_is_child path p own e = (
  [],
  map-append step path.parents (p ∷ [])
      ∙ ap (λ n. map step path.parents ++ record { tli = n; switch = p.switch } ∷ []) e,
)

-- ---- the first difference

drop_head : (xs : List Step) (at : ℕ) → at < length xs → (s : Step) × (rest : List Step) × (drop at xs ≡ s ∷ rest)
drop_head [] at h = absurd (omega arith)
drop_head (x ∷ xs) zero h = (x, xs, refl)
drop_head (x ∷ xs) (suc at) h = drop_head xs at (omega arith)

same_head : (xs ys : List Step) (at n : ℕ) → at < n → at < length xs → take n xs ≡ take n ys → (s : Step) × (rest : List Step)
    × (more : List Step) × (drop at xs ≡ s ∷ rest) × (drop at ys ≡ s ∷ more)
same_head xs ys at zero h k e = absurd (omega arith)
same_head [] ys at (suc n) h k e = absurd (omega arith)
same_head (x ∷ xs) [] at (suc n) h k e = absurd (cc)
same_head (x ∷ xs) (y ∷ ys) zero (suc n) h k e = (x, xs, ys, refl, (cc))
same_head (x ∷ xs) (y ∷ ys) (suc at) (suc n) h k e = same_head xs ys at n (omega arith) (omega arith) (cc)

not_before : (a b : Path) (i j : ℕ) → DifferAt a b i → DifferAt a b j → i < j → ⊥
not_before a b i j p q h =
    let same = same_head (steps a) (steps b) i j h (omega (arith, q.within.0)) q.same in
    p.differ same.0 same.1 same.2 same.3 same.4

pub one_difference : (a b : Path) (i j : ℕ) → DifferAt a b i → DifferAt a b j → i ≡ j
one_difference a b i j p q = omega (arith, not_before a b i j p q, not_before a b j i q p)

-- ---- one relation

pub one_relation : (a b : Path) (r s : Relation) → IsRelation a b r → IsRelation a b s → r ≡ s
one_relation a b relation.Same relation.Same p q = refl
one_relation a b relation.Same (relation.Child t) p q = absurd (omega (arith, ap length p.1, child_longer a b t q))
one_relation a b relation.Same (relation.Parent t) p q = absurd (omega (arith, ap length p.1, child_longer b a t q))
one_relation a b relation.Same (relation.Apart j) p q = absurd (q.1 p)
one_relation a b (relation.Child s) relation.Same p q = absurd (omega (arith, ap length q.1, child_longer a b s p))
one_relation a b (relation.Child s) (relation.Child t) p q = ap relation.Child (one_child a b s t p q)
one_relation a b (relation.Child s) (relation.Parent t) p q = absurd (omega (arith, child_longer a b s p, child_longer b a t q))
one_relation a b (relation.Child s) (relation.Apart j) p q = absurd (q.2 s p)
one_relation a b (relation.Parent s) relation.Same p q = absurd (omega (arith, ap length q.1, child_longer b a s p))
one_relation a b (relation.Parent s) (relation.Child t) p q = absurd (omega (arith, child_longer b a s p, child_longer a b t q))
one_relation a b (relation.Parent s) (relation.Parent t) p q = ap relation.Parent (one_child b a s t p q)
one_relation a b (relation.Parent s) (relation.Apart j) p q = absurd (q.3 s p)
one_relation a b (relation.Apart i) relation.Same p q = absurd (p.1 q)
one_relation a b (relation.Apart i) (relation.Child t) p q = absurd (p.2 t q)
one_relation a b (relation.Apart i) (relation.Parent t) p q = absurd (p.3 t q)
one_relation a b (relation.Apart i) (relation.Apart j) p q = ap relation.Apart (one_difference a b i j p.0 q.0)

-- ---- what holds a position before the switch point, in the child too

held_by_child : (ps qs : List Part) (more : List Step) (own other origin switch at tli start : ℕ) (end : Option ℕ)
    → map step qs ≡ map step ps ++ record { tli = own; switch = switch } ∷ more → at < switch → Holds origin ps own tli start end
    → IsBelow at end → (o : Option ℕ) × Holds origin qs other tli start o × IsBelow at o
held_by_child [] [] more own other origin switch at tli start end e h holds below = absurd (cc)
held_by_child [] (q ∷ qs) more own other origin switch at tli start end e h holds below =
    let s : step q ≡ record { tli = own; switch = switch } = cc in
    let number : q.tli ≡ own = ap (λ (x : Step). x.tli) s in
    let left : q.switch ≡ switch = ap (λ (x : Step). x.switch) s in
    (Some q.switch, inl (holds.0 ∙ sym number, holds.1, refl), omega arith)
held_by_child (p ∷ ps) [] more own other origin switch at tli start end e h holds below = absurd (cc)
held_by_child (p ∷ ps) (q ∷ qs) more own other origin switch at tli start end e h (inl here) below =
    let s : step q ≡ step p = cc in
    let number : q.tli ≡ p.tli = ap (λ (x : Step). x.tli) s in
    let left : q.switch ≡ p.switch = ap (λ (x : Step). x.switch) s in
    (end, inl (here.0 ∙ sym number, here.1, here.2 ∙ ap Some (sym left)), below)
held_by_child (p ∷ ps) (q ∷ qs) more own other origin switch at tli start end e h (inr past) below =
    let s : step q ≡ step p = cc in
    let left : p.switch ≡ q.switch = ap (λ (x : Step). x.switch) (sym s) in
    let rest : map step qs ≡ map step ps ++ record { tli = own; switch = switch } ∷ more = cc in
    let r = held_by_child ps qs more own other q.switch switch at tli start end rest h (subst (λ n. Holds n ps own tli start end) left
    past) below in
    (r.0, inr r.1, r.2)

pub on_child : (a b : Path) (switch at tli : ℕ) → IsChild a b switch → at < switch → IsOn a tli at → IsOn b tli at
on_child a b switch at tli child h on =
    let r = held_by_child a.parents b.parents child.0 a.own b.own 0 switch at tli on.start on.end child.1 h on.holds on.below in
    record { start = on.start; end = r.0; holds = r.1; from = on.from; below = r.2 }

-- ---- the step of a parent

step_at : (ps : List Part) (n : ℕ) (x : Part) → n < length ps → x ≡ get_or ps n x
    → drop n (map step ps) ≡ step x ∷ map step (drop (n + 1) ps)
step_at ps n x h e = drop-map step n ps ∙ ap (map step) (drop_more ps n x h ∙ ap (λ q. q ∷ drop (n + 1) ps) (sym e))

step_or : (ps : List Part) (n : ℕ) (x : Part) → n < length ps → x ≡ get_or ps n x → (d : Step) → get_or (map step ps) n d ≡ step x
step_or [] n x h e d = absurd (omega arith)
step_or (p ∷ ps) zero x h e d = ap step (sym e)
step_or (p ∷ ps) (suc n) x h e d = step_or ps n x (omega arith) e d

-- ---- where two paths differ first

-- a child shares all of the parents, and goes on with the own timeline
pub child_shares_all : (a b : Path) (n switch : ℕ) → DifferAt a b n → IsChild a b switch → length (steps a) ≡ n
child_shares_all a b n switch differ child =
    let last : Step = record { tli = a.own; switch = switch } in
    ⊎_elim
    (λ (h : n < length (steps a)).
    let head = drop_head (steps a) n h in
    let past : drop n (steps b) ≡ head.0 ∷ (head.1 ++ last ∷ child.0) = ap (drop n) child.1
    ∙ drop-append-le n (steps a) (last ∷ child.0) (omega arith) ∙ ap (λ xs. xs ++ last ∷ child.0) head.2 in
    absurd (differ.differ head.0 head.1 (head.1 ++ last ∷ child.0) head.2 past))
    (λ (h : length (steps a) ≤ n). omega (arith, differ.within.0))
    (cases_lt n (length (steps a)))

pub child_longer_by : (a b : Path) (n switch : ℕ) → IsChild a b switch → length (steps a) ≡ n → n < length b.parents
child_longer_by a b n switch child all = omega (arith, child_longer a b switch child, length-map b.parents step)

pub child_next : (a b : Path) (n switch : ℕ) (x : Part) → IsChild a b switch → length (steps a) ≡ n → x ≡ get_or b.parents n x
    → x.tli ≡ a.own
child_next a b n switch x child all at-x =
    let last : Step = record { tli = a.own; switch = switch } in
    let is : step x ≡ last = sym (step_or b.parents n x (child_longer_by a b n switch child all) at-x last)
    ∙ ap (λ xs. get_or xs n last) child.1 ∙ get_or_at (steps a) last child.0 last n all in
    ap (λ (s : Step). s.tli) is

pub next_is_child : (a b : Path) (n : ℕ) (x : Part) → DifferAt a b n → length (steps a) ≡ n → n < length b.parents
    → x ≡ get_or b.parents n x → x.tli ≡ a.own → IsChild a b x.switch
next_is_child a b n x differ all long at-x number =
    let last : Step = record { tli = a.own; switch = x.switch } in
    let is : step x ≡ last = ap (λ t. record { tli = t; switch = x.switch }) number in
    let more = map step (drop (n + 1) b.parents) in
    let rest : drop n (steps b) ≡ last ∷ more = step_at b.parents n x long at-x ∙ ap (λ s. s ∷ more) is in
    let front : take n (steps b) ≡ steps a = sym differ.same ∙ take_all n (steps a) (omega arith) in
    (more, sym (take-append-drop n (steps b)) ∙ ap (λ xs. xs ++ drop n (steps b)) front ∙ ap (λ xs. steps a ++ xs) rest)

-- two paths that are the same share all of the parents
pub same_shares_all : (a b : Path) (n : ℕ) → DifferAt a b n → steps a ≡ steps b → (length (steps a) ≡ n) × (length (steps b) ≡ n)
same_shares_all a b n differ same =
    let all : length (steps a) ≡ n =
    ⊎_elim
    (λ (h : n < length (steps a)).
    let head = drop_head (steps a) n h in
    absurd (differ.differ head.0 head.1 head.1 head.2 (ap (drop n) (sym same) ∙ head.2)))
    (λ (h : length (steps a) ≤ n). omega (arith, differ.within.0))
    (cases_lt n (length (steps a))) in
    (all, ap length (sym same) ∙ all)

-- ---- a walk over the parents of two paths, which stands at one of each

pub step_more : (ps qs : List Part) (n : ℕ) (x y : Part) → n < length ps → n < length qs → x ≡ get_or ps n x → y ≡ get_or qs n y
    → step x ≡ step y → take n (map step ps) ≡ take n (map step qs) → take (n + 1) (map step ps) ≡ take (n + 1) (map step qs)
step_more ps qs n x y h k at-x at-y pair same =
    let last : get_or (map step ps) n (step x) ≡ get_or (map step qs) n (step x) = step_or ps n x h at-x (step x) ∙ pair
    ∙ sym (step_or qs n y k at-y (step x)) in
    take_more_same (map step ps) (map step qs) n (step x) (omega (arith, length-map ps step)) (omega (arith, length-map qs step)) same last

pub differ_here : (a b : Path) (n : ℕ) (x y : Part) → n < length a.parents → n < length b.parents → x ≡ get_or a.parents n x
    → y ≡ get_or b.parents n y → (step x ≡ step y → ⊥) → take n (steps a) ≡ take n (steps b) → DifferAt a b n
differ_here a b n x y h k at-x at-y apart same =
    record {
      within = (omega (arith, length-map a.parents step), omega (arith, length-map b.parents step));
      same = same;
      differ = λ s rest more here there.
          let left : s ≡ step x = let e = step_at a.parents n x h at-x in cc in
          let right : s ≡ step y = let e = step_at b.parents n y k at-y in cc in
          apart (sym left ∙ right);
    }

pub differ_past : (a b : Path) (n : ℕ) → n ≤ length a.parents → n ≤ length b.parents → (length a.parents ≤ n) ⊎ (length b.parents ≤ n)
    → take n (steps a) ≡ take n (steps b) → DifferAt a b n
differ_past a b n h k ended same =
    let long-a : length (steps a) ≡ length a.parents = length-map a.parents step in
    let long-b : length (steps b) ≡ length b.parents = length-map b.parents step in
    record {
      within = (omega arith, omega arith);
      same = same;
      differ = λ s rest more here there.
          ⊎_elim
          (λ (none : length a.parents ≤ n). let e = drop_all n (steps a) (omega arith) in cc)
          (λ (none : length b.parents ≤ n). let e = drop_all n (steps b) (omega arith) in cc)
          ended;
    }
