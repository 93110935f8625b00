-- The order of names, byte by byte.
use Rattle.std.proofs.Common.{◌≡◌, inl, inr, ⊎_elim, ℕ, ◌<◌, true, false, List, [], ◌∷◌, refl, sym, ◌∙◌, subst, arith, Less, Equal, Greater, Ordering}
use Rattle.std.proofs.lemmas.Bool.{cases_order, false_from_ne_true}
use Rattle.std.proofs.lemmas.Bool.Decides.{nat_tests}
use Rattle.std.proofs.lemmas.Slice.Eq.{bytes_eq-Decides}
use Rattle.std.specs.Cmp.Lexicographic.{slice_cmp}
use Rattle.std.specs.Ordering.{nat_cmp, ordering_then}
use Rattle.std.specs.Prelude.{bytes_eq}
use Rattle.repl_disk.specs.Folder.{IsBefore}

pub not_before_itself : (a : List ℕ) → IsBefore a a → ⊥
not_before_itself [] none = none
not_before_itself (a ∷ rest) (inl lt) = omega arith
not_before_itself (a ∷ rest) (inr later) = not_before_itself rest later.1

pub before-before : (a b c : List ℕ) → IsBefore a b → IsBefore b c → IsBefore a c
before-before a [] c ab bc = absurd (none a ab)
  where
    none : (a : List ℕ) → IsBefore a [] → ⊥
    none [] h = h
    none (x ∷ xs) h = h
before-before [] (y ∷ ys) [] ab bc = bc
before-before [] (y ∷ ys) (z ∷ zs) ab bc = tt
before-before (x ∷ xs) (y ∷ ys) [] ab bc = bc
before-before (x ∷ xs) (y ∷ ys) (z ∷ zs) (inl lt) (inl lt2) = inl (omega arith)
before-before (x ∷ xs) (y ∷ ys) (z ∷ zs) (inl lt) (inr later) = inl (omega (arith, later.0))
before-before (x ∷ xs) (y ∷ ys) (z ∷ zs) (inr later) (inl lt) = inl (omega (arith, later.0))
before-before (x ∷ xs) (y ∷ ys) (z ∷ zs) (inr here) (inr later) = inr (here.0 ∙ later.0, before-before xs ys zs here.1 later.1)

-- what a comparison tells
abbrev pub Tells : Ordering → List ℕ → List ℕ → Type 0
Tells Less a b = IsBefore a b
Tells Equal a b = a ≡ b
Tells Greater a b = IsBefore b a

less : (x y : ℕ) → x < y → nat_cmp x y ≡ Less
less x y lt = grind (arith, nat_tests)

greater : (x y : ℕ) → y < x → nat_cmp x y ≡ Greater
greater x y lt = grind (arith, nat_tests)

equal : (x y : ℕ) → x ≡ y → nat_cmp x y ≡ Equal
equal x y same = grind (arith, nat_tests)

tells_more : (o : Ordering) (x y : ℕ) (xs ys : List ℕ) → x ≡ y → Tells o xs ys → Tells o (x ∷ xs) (y ∷ ys)
tells_more Less x y xs ys same later = inr (same, later)
tells_more Equal x y xs ys same later = λ i. same i ∷ later i
tells_more Greater x y xs ys same later = inr (sym same, later)

first_tells : (x y : ℕ) (xs ys : List ℕ) → Tells (slice_cmp nat_cmp xs ys) xs ys
    → Tells (slice_cmp nat_cmp (x ∷ xs) (y ∷ ys)) (x ∷ xs) (y ∷ ys)
first_tells x y xs ys rest = ⊎_elim same (⊎_elim below above) (cases_order x y)
  where
    with_first : (o : Ordering) → nat_cmp x y ≡ o → Tells (ordering_then o (slice_cmp nat_cmp xs ys)) (x ∷ xs) (y ∷ ys)
        → Tells (slice_cmp nat_cmp (x ∷ xs) (y ∷ ys)) (x ∷ xs) (y ∷ ys)
    with_first o is tells = subst (λ (o : Ordering). Tells (ordering_then o (slice_cmp nat_cmp xs ys)) (x ∷ xs) (y ∷ ys)) (sym is) tells

    same : x ≡ y → Tells (slice_cmp nat_cmp (x ∷ xs) (y ∷ ys)) (x ∷ xs) (y ∷ ys)
    same e = with_first Equal (equal x y e) (tells_more (slice_cmp nat_cmp xs ys) x y xs ys e rest)

    below : x < y → Tells (slice_cmp nat_cmp (x ∷ xs) (y ∷ ys)) (x ∷ xs) (y ∷ ys)
    below lt = with_first Less (less x y lt) (inl lt)

    above : y < x → Tells (slice_cmp nat_cmp (x ∷ xs) (y ∷ ys)) (x ∷ xs) (y ∷ ys)
    above lt = with_first Greater (greater x y lt) (inl lt)

pub cmp_tells : (a b : List ℕ) → Tells (slice_cmp nat_cmp a b) a b
cmp_tells [] [] = refl
cmp_tells [] (y ∷ ys) = tt
cmp_tells (x ∷ xs) [] = tt
cmp_tells (x ∷ xs) (y ∷ ys) = first_tells x y xs ys (cmp_tells xs ys)

-- ---- the test on names

pub same_name : (a b : List ℕ) → a ≡ b → bytes_eq a b ≡ true
same_name a b same = (bytes_eq-Decides a b).1 same

pub name_same : (a b : List ℕ) → bytes_eq a b ≡ true → a ≡ b
name_same a b test = (bytes_eq-Decides a b).0 test

pub other_name : (a b : List ℕ) → (a ≡ b → ⊥) → bytes_eq a b ≡ false
other_name a b differ = false_from_ne_true (bytes_eq a b) (λ test. differ (name_same a b test))

pub before_differs : (a b : List ℕ) → IsBefore a b → a ≡ b → ⊥
before_differs a b before same = not_before_itself b (subst (λ (x : List ℕ). IsBefore x b) same before)
