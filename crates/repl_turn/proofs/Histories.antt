-- Lists of numbers, the entries that they made, and histories that grow.
use Rattle.std.proofs.Common.{◌≡◌, ◌⊎◌, ℕ, zero, suc, ◌==◌, ◌<◌, ◌≤◌, Bool, true, false, ◌||◌, true≢false, List, [], ◌∷◌, ◌++◌, length, cond, Some, inl, inr, refl, sym, ap, ◌∙◌, subst, arith, append_assoc, get_or, ⊎_elim}
use Rattle.std.specs.Prelude.{filter, slice_get}
use Rattle.std.proofs.lemmas.Bool.Decides.{nat_tests}
use Rattle.std.proofs.lemmas.List.Elements.{filter-append}
use Rattle.std.proofs.lemmas.List.{append_cancel_left, append-nil}
use mathlib.Core.List.{IsPrefix}
use Rattle.repl_turn.specs.declared.machine.Entry.{Entry}
use Rattle.repl_turn.specs.History.{has, Disjoint, calls_by, Replays}
use Rattle.repl_turn.specs.Rule.{Begins}

or_assoc : (a b c : Bool) → (a || (b || c)) ≡ ((a || b) || c)
or_assoc true b c = refl
or_assoc false b c = refl

pub has-append : (n : ℕ) (ms ns : List ℕ) → has n (ms ++ ns) ≡ (has n ms || has n ns)
has-append n [] ns = refl
has-append n (m ∷ ms) ns = ap (λ b. (n == m) || b) (has-append n ms ns) ∙ or_assoc (n == m) (has n ms) (has n ns)

or_either : (a b : Bool) → (a || b) ≡ true → (a ≡ true) ⊎ (b ≡ true)
or_either true b e = inl refl
or_either false b e = inr e

or_neither : (a b : Bool) → a ≡ false → b ≡ false → (a || b) ≡ false
or_neither true b p q = p
or_neither false b p q = q

or_right : (a b : Bool) → b ≡ true → (a || b) ≡ true
or_right true b e = refl
or_right false b e = e

or_left : (a b : Bool) → a ≡ true → (a || b) ≡ true
or_left true b e = refl
or_left false b e = absurd (true≢false (sym e))

or_second : (a b : Bool) → (a || b) ≡ false → b ≡ false
or_second true b e = absurd (true≢false e)
or_second false b e = e

or_first : (a b : Bool) → (a || b) ≡ false → a ≡ false
or_first true b e = e
or_first false b e = refl

pub has_either : (n : ℕ) (ms ns : List ℕ) → has n (ms ++ ns) ≡ true → (has n ms ≡ true) ⊎ (has n ns ≡ true)
has_either n ms ns e = or_either (has n ms) (has n ns) (sym (has-append n ms ns) ∙ e)

pub has_neither : (n : ℕ) (ms ns : List ℕ) → has n ms ≡ false → has n ns ≡ false → has n (ms ++ ns) ≡ false
has_neither n ms ns p q = has-append n ms ns ∙ or_neither (has n ms) (has n ns) p q

pub has_left : (n : ℕ) (ms ns : List ℕ) → has n ms ≡ true → has n (ms ++ ns) ≡ true
has_left n ms ns e = has-append n ms ns ∙ or_left (has n ms) (has n ns) e

pub has_right : (n : ℕ) (ms ns : List ℕ) → has n ns ≡ true → has n (ms ++ ns) ≡ true
has_right n ms ns e = has-append n ms ns ∙ or_right (has n ms) (has n ns) e

pub lacks_left : (n : ℕ) (ms ns : List ℕ) → has n (ms ++ ns) ≡ false → has n ms ≡ false
lacks_left n ms ns e = or_first (has n ms) (has n ns) (sym (has-append n ms ns) ∙ e)

pub lacks_right : (n : ℕ) (ms ns : List ℕ) → has n (ms ++ ns) ≡ false → has n ns ≡ false
lacks_right n ms ns e = or_second (has n ms) (has n ns) (sym (has-append n ms ns) ∙ e)

pub unless_true : (b : Bool) → (b ≡ true → ⊥) → b ≡ false
unless_true true h = absurd (h refl)
unless_true false h = refl

-- a number that is not below n is not among numbers below n
pub lacks_above : (n top : ℕ) (ns : List ℕ) → ((m : ℕ) → has m ns ≡ true → m < top) → top ≤ n → has n ns ≡ false
lacks_above n top ns below le = unless_true (has n ns) (λ e. let l : n < top = below n e in omega arith)

pub disjoint_sym : (ms ns : List ℕ) → Disjoint ms ns → Disjoint ns ms
disjoint_sym ms ns d n e = unless_true (has n ms) (λ t. true≢false (sym e ∙ d n t))

same_self : (n : ℕ) → (n == n) ≡ true
same_self n = grind (arith, nat_tests)

pub has_first : (ns : List ℕ) → 0 < length ns → has (get_or ns 0 0) ns ≡ true
has_first [] l = absurd (omega arith)
has_first (n ∷ ns) l = or_left (n == n) (has n ns) (same_self n)

pub has_one : (n m : ℕ) → has n (m ∷ []) ≡ true → n ≡ m
has_one n m e = grind (arith, nat_tests, or_either (n == m) false e)

module _ {X : Type 0} where
  head_none : (b : Bool) (x : X) (ys : List X) → cond b (x ∷ ys) ys ≡ [] → (b ≡ false) × (ys ≡ [])
  head_none true x ys e = absurd cc
  head_none false x ys e = (refl, e)

  -- what three tests keep, where the third passes only what one of the first two does
  filter_none : (p q r : X → Bool) → ((x : X) → p x ≡ false → q x ≡ false → r x ≡ false) → (xs : List X) → filter p xs ≡ []
      → filter q xs ≡ [] → filter r xs ≡ []
  filter_none p q r h [] a b = refl
  filter_none p q r h (x ∷ xs) a b =
      let c = head_none (p x) x (filter p xs) a in
      let d = head_none (q x) x (filter q xs) b in
      let rest = filter_none p q r h xs c.1 d.1 in
      ap (λ t. cond t (x ∷ filter r xs) (filter r xs)) (h x c.0 d.0) ∙ rest

  pub nil_parts : (xs ys : List X) → xs ++ ys ≡ [] → (xs ≡ []) × (ys ≡ [])
  nil_parts [] ys e = (refl, e)
  nil_parts (x ∷ xs) ys e = absurd cc

  pub prefix_self : (xs : List X) → IsPrefix xs xs
  prefix_self xs = ([], append-nil xs)

  -- of two beginnings of one list, one begins the other
  pub prefix_either : (xs ys zs : List X) → IsPrefix xs zs → IsPrefix ys zs → IsPrefix xs ys ⊎ IsPrefix ys xs
  prefix_either [] ys zs p q = inl (ys, refl)
  prefix_either (x ∷ xs) [] zs p q = inr (x ∷ xs, refl)
  prefix_either (x ∷ xs) (y ∷ ys) [] p q = absurd (cc (p.1))
  prefix_either (x ∷ xs) (y ∷ ys) (z ∷ zs) p q =
      let heads : x ≡ y = cc (p.1, q.1) in
      ⊎_elim (λ (r : IsPrefix xs ys). inl (r.0, cc (heads, r.1))) (λ (r : IsPrefix ys xs). inr (r.0, cc (heads, r.1)))
      (prefix_either xs ys zs (p.0, cc (p.1)) (q.0, cc (q.1)))

  -- what stands in a beginning stands in the whole, at the same place
  pub prefix_get : (xs ys : List X) (k : ℕ) (x : X) → IsPrefix xs ys → slice_get xs k ≡ Some x → slice_get ys k ≡ Some x
  prefix_get [] ys k x p h = absurd cc
  prefix_get (y ∷ xs) [] k x p h = absurd (cc (p.1))
  prefix_get (y ∷ xs) (z ∷ ys) zero x p h = cc (p.1, h)
  prefix_get (y ∷ xs) (z ∷ ys) (suc k) x p h = prefix_get xs ys k x (p.0, cc (p.1)) h

  pub get_last : (xs : List X) (x : X) (n : ℕ) → length xs ≡ n → slice_get (xs ++ x ∷ []) n ≡ Some x
  get_last [] x zero e = refl
  get_last [] x (suc n) e = absurd (omega arith)
  get_last (y ∷ xs) x zero e = absurd (omega arith)
  get_last (y ∷ xs) x (suc n) e = get_last xs x n (omega arith)

module _ {E R : Type 0} where
  pub calls_by-append : (ns : List ℕ) (g h : List (Entry E R)) → calls_by ns (g ++ h) ≡ calls_by ns g ++ calls_by ns h
  calls_by-append ns g h = filter-append (λ (e : Entry E R). has e.by ns) g h

  pub calls_of_one : (ns : List ℕ) (e : Entry E R) → has e.by ns ≡ true → calls_by ns (e ∷ []) ≡ e ∷ []
  calls_of_one ns e h = ap (λ t. cond t (e ∷ []) []) h

  pub calls_of_other : (ns : List ℕ) (e : Entry E R) → has e.by ns ≡ false → calls_by ns (e ∷ []) ≡ []
  calls_of_other ns e h = ap (λ t. cond t (e ∷ []) []) h

  pub calls_of_both : (ms ns : List ℕ) (h : List (Entry E R)) → calls_by ms h ≡ [] → calls_by ns h ≡ [] → calls_by (ms ++ ns) h ≡ []
  calls_of_both ms ns h p q = filter_none (λ (e : Entry E R). has e.by ms) (λ (e : Entry E R). has e.by ns)
      (λ (e : Entry E R). has e.by (ms ++ ns)) (λ e a b. has_neither e.by ms ns a b) h p q

  pub calls_of_part : (ms ns : List ℕ) (h : List (Entry E R)) → ((n : ℕ) → has n ns ≡ false → has n ms ≡ false) → calls_by ns h ≡ []
      → calls_by ms h ≡ []
  calls_of_part ms ns h part p = filter_none (λ (e : Entry E R). has e.by ns) (λ (e : Entry E R). has e.by ns)
      (λ (e : Entry E R). has e.by ms) (λ e a _. part e.by a) h p p

  pub calls_of_nobody : (h : List (Entry E R)) → calls_by [] h ≡ []
  calls_of_nobody [] = refl
  calls_of_nobody (e ∷ h) = calls_of_nobody h

  pub no_more : (ns : List ℕ) (g h : List (Entry E R)) → calls_by ns g ≡ [] → calls_by ns h ≡ [] → calls_by ns (g ++ h) ≡ []
  no_more ns g h p q = calls_by-append ns g h ∙ (ap (λ l. l ++ calls_by ns h) p ∙ q)

  -- what was seen, and nothing else of these numbers
  pub same_calls : (ns : List ℕ) (g h : List (Entry E R)) → calls_by ns h ≡ [] → calls_by ns (g ++ h) ≡ calls_by ns g
  same_calls ns g h p = calls_by-append ns g h ∙ (ap (λ l. calls_by ns g ++ l) p ∙ append-nil (calls_by ns g))

  pub begins_all : (ns : List ℕ) (log : List (Entry E R)) → Begins ns log log
  begins_all ns log = record { rest = []; whole = append-nil log; others = refl }

  pub begins_push : (ns : List ℕ) (seen log : List (Entry E R)) (e : Entry E R) → has e.by ns ≡ false → Begins ns seen log
      → Begins ns seen (log ++ e ∷ [])
  begins_push ns seen log e other b = record {
    rest = b.rest ++ e ∷ [];
    whole = sym (append_assoc seen b.rest (e ∷ [])) ∙ ap (λ l. l ++ e ∷ []) b.whole;
    others = no_more ns b.rest (e ∷ []) b.others (calls_of_other ns e other);
  }

  -- what stands between two beginnings, and after the longer
  pub between : (ns : List ℕ) (xs ys log : List (Entry E R)) → Begins ns xs log → (p : IsPrefix xs ys) → (q : IsPrefix ys log)
      → (calls_by ns p.0 ≡ []) × (calls_by ns q.0 ≡ [])
  between ns xs ys log b p q =
      let same : b.rest ≡ p.0 ++ q.0 = append_cancel_left xs b.rest (p.0 ++ q.0) (b.whole
      ∙ (sym q.1 ∙ (ap (λ l. l ++ q.0) (sym p.1) ∙ append_assoc xs p.0 q.0))) in
      nil_parts (calls_by ns p.0) (calls_by ns q.0) (sym (calls_by-append ns p.0 q.0) ∙ (ap (calls_by ns) (sym same) ∙ b.others))

  pub begins_on : (ns : List ℕ) (xs ys log : List (Entry E R)) → Begins ns xs log → IsPrefix xs ys → IsPrefix ys log → Begins ns ys log
  begins_on ns xs ys log b p q = record { rest = q.0; whole = q.1; others = (between ns xs ys log b p q).1 }

  pub begins_calls : (ns : List ℕ) (xs ys log : List (Entry E R)) → Begins ns xs log → IsPrefix xs ys → IsPrefix ys log
      → calls_by ns ys ≡ calls_by ns xs
  begins_calls ns xs ys log b p q = ap (calls_by ns) (sym p.1) ∙ same_calls ns xs p.0 (between ns xs ys log b p q).0

  pub begins_both : (ms ns : List ℕ) (seen log : List (Entry E R)) → Begins ms seen log → Begins ns seen log → Begins (ms ++ ns) seen log
  begins_both ms ns seen log b c =
      let same : c.rest ≡ b.rest = append_cancel_left seen c.rest b.rest (c.whole ∙ sym b.whole) in
      record { rest = b.rest; whole = b.whole; others = calls_of_both ms ns b.rest b.others (ap (calls_by ns) (sym same) ∙ c.others) }

  pub begins_none : (ns : List ℕ) (seen log : List (Entry E R)) → IsPrefix seen log → calls_by ns log ≡ []
      → Begins ns seen log × (calls_by ns seen ≡ [])
  begins_none ns seen log p none =
      let parts = nil_parts (calls_by ns seen) (calls_by ns p.0) (sym (calls_by-append ns seen p.0) ∙ (ap (calls_by ns) p.1 ∙ none)) in
      (record { rest = p.0; whole = p.1; others = parts.1 }, parts.0)

module _ {S E R : Type 0} (steps : S → E → R → S → Type 0) where
  pub replays_push : (x : S) (h : List (Entry E R)) (y : S) (e : Entry E R) (z : S) → Replays steps x h y → steps y e.event e.reply z
      → Replays steps x (h ++ e ∷ []) z
  replays_push x [] y e z p q = (z, subst (λ w. steps w e.event e.reply z) (sym p) q, refl)
  replays_push x (d ∷ h) y e z p q = (p.0, p.1, replays_push p.0 h y e z p.2 q)

  pub replays_front : (x : S) (g h : List (Entry E R)) (z : S) → Replays steps x (g ++ h) z → (y : S) × Replays steps x g y
  replays_front x [] h z p = (x, refl)
  replays_front x (d ∷ g) h z p = let rest = replays_front p.0 g h z p.2 in (rest.0, (p.0, p.1, rest.1))
