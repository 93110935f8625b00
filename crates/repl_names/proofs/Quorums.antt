-- Counts of candidates by a test, and the positions that so many of them have.
use Rattle.std.proofs.Common.{◌≡◌, ℕ, ◌+◌, ◌<◌, ◌≤◌, Bool, true, false, cond, not, ◌&&◌, nat_lt, List, [], ◌∷◌, length, All, filter, count_by, refl, sym, ap, ◌∙◌, arith}
use Rattle.std.proofs.lemmas.Bool.{lt-ltb, le-ltb, ltb-false, not-true}
use Rattle.std.proofs.lemmas.List.Elements.{All-head, All-tail}
use Rattle.std.proofs.lemmas.List.Sums.{sum_by-cons}
use Rattle.repl_names.specs.declared.quorum.Mode.{Mode}
use Rattle.repl_names.specs.declared.quorum.Candidate.{Candidate}
use Rattle.repl_names.specs.Quorum.{position, reaches}

-- ---- counts

pub count_cons : {X : Type 0} (p : X → Bool) (x : X) (xs : List X) → count_by p (x ∷ xs) ≡ cond (p x) 1 0 + count_by p xs
count_cons p x xs = sum_by-cons (λ y. cond (p y) 1 0) x xs

count_cond : {X : Type 0} (p : X → Bool) (b : Bool) (x : X) (xs : List X)
    → count_by p (cond b (x ∷ xs) xs) ≡ cond (b && p x) 1 0 + count_by p xs
count_cond p true x xs = count_cons p x xs
count_cond p false x xs = omega arith

-- a count of what a filter keeps
pub count_filter : {X : Type 0} (p q : X → Bool) (xs : List X) → count_by p (filter q xs) ≡ count_by (λ x. q x && p x) xs
count_filter p q [] = refl
count_filter p q (x ∷ xs) =
    let rest = count_filter p q xs in
    let whole = count_cons (λ y. q y && p y) x xs in
    let step = count_cond p (q x) x (filter q xs) in
    step ∙ ap (λ n. cond (q x && p x) 1 0 + n) rest ∙ sym whole

filter_cond : {X : Type 0} (p : X → Bool) (b : Bool) (x : X) (xs : List X)
    → filter p (cond b (x ∷ xs) xs) ≡ cond (b && p x) (x ∷ filter p xs) (filter p xs)
filter_cond p true x xs = refl
filter_cond p false x xs = refl

-- one filter after another
pub filter_filter : {X : Type 0} (p q : X → Bool) (xs : List X) → filter p (filter q xs) ≡ filter (λ x. q x && p x) xs
filter_filter p q [] = refl
filter_filter p q (x ∷ xs) =
    let rest = filter_filter p q xs in
    filter_cond p (q x) x (filter q xs) ∙ ap (λ ys. cond (q x && p x) (x ∷ ys) ys) rest

pub one_le : (a b : Bool) → (a ≡ true → b ≡ true) → cond {A = ℕ} a 1 0 ≤ cond {A = ℕ} b 1 0
one_le false b h = omega arith
one_le true b h = rw (h refl) (omega arith)

-- what passes one test passes the other
pub count_le : {X : Type 0} (p q : X → Bool) (xs : List X) → All (λ x. p x ≡ true → q x ≡ true) xs → count_by p xs ≤ count_by q xs
count_le p q [] h = omega arith
count_le p q (x ∷ xs) h =
    let head = one_le (p x) (q x) (All-head (λ y. p y ≡ true → q y ≡ true) x xs h) in
    let rest = count_le p q xs (All-tail (λ y. p y ≡ true → q y ≡ true) x xs h) in
    omega (arith, count_cons p x xs, count_cons q x xs)

pub count_all : {X : Type 0} (p : X → Bool) (xs : List X) → All (λ x. p x ≡ true) xs → count_by p xs ≡ length xs
count_all p [] h = refl
count_all p (x ∷ xs) h =
    let head = All-head (λ y. p y ≡ true) x xs h in
    let rest = count_all p xs (All-tail (λ y. p y ≡ true) x xs h) in
    let one : cond {A = ℕ} (p x) 1 0 ≡ 1 = ap (λ b. cond b 1 0) head in
    omega (arith, count_cons p x xs)

pub count_none : {X : Type 0} (p : X → Bool) (xs : List X) → All (λ x. p x ≡ false) xs → count_by p xs ≡ 0
count_none p [] h = refl
count_none p (x ∷ xs) h =
    let head = All-head (λ y. p y ≡ false) x xs h in
    let rest = count_none p xs (All-tail (λ y. p y ≡ false) x xs h) in
    let one : cond {A = ℕ} (p x) 1 0 ≡ 0 = ap (λ b. cond b 1 0) head in
    omega (arith, count_cons p x xs)

-- ---- positions

pub reached : (m : Mode) (end : ℕ) (c : Candidate) → reaches m end c ≡ true → end ≤ position m c
reached m end c h = ltb-false (position m c) end (not-true (nat_lt (position m c) end) h)

pub reaches_at : (m : Mode) (end : ℕ) (c : Candidate) → end ≤ position m c → reaches m end c ≡ true
reaches_at m end c h = ap not (le-ltb (position m c) end h)

-- no more have a later position
pub reach_falls : (m : Mode) (earlier later : ℕ) (cs : List Candidate) → earlier ≤ later
    → count_by (reaches m later) cs ≤ count_by (reaches m earlier) cs
reach_falls m earlier later cs le = count_le (reaches m later) (reaches m earlier) cs
    (λ k d l h. let r = reached m later _ h in reaches_at m earlier _ (omega arith))

-- each has position 0
pub reach_zero : (m : Mode) (cs : List Candidate) → count_by (reaches m 0) cs ≡ length cs
reach_zero m cs = count_all (reaches m 0) cs (λ k d l. reaches_at m 0 _ (omega arith))

-- none has a position past all of them
pub reach_none : (m : Mode) (end : ℕ) (cs : List Candidate) → All (λ c. position m c < end) cs → count_by (reaches m end) cs ≡ 0
reach_none m end cs h = count_none (reaches m end) cs (λ k d l. ap not (lt-ltb _ end (h k d l)))
