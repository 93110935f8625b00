-- Entries of a list that were written one after another fit their types.
use Rattle.std.proofs.Common.{◌≡◌, ℕ, zero, suc, ◌+◌, ◌<◌, ◌≤◌, List, [], ◌∷◌, ◌++◌, length, get_or, take, sym, subst, arith, add-one}
use Rattle.std.specs.List.{All, AllByRecursion}
use Rattle.std.proofs.lemmas.List.{take_all}

fits_next : {X : Type 0} (P : X → Type 0) (xs : List X) (i : ℕ) (x : X) → i < length xs → x ≡ get_or xs i x → AllByRecursion P (take i xs)
    → P x → AllByRecursion P (take (suc i) xs)
fits_next P [] i x lt is so_far here = absurd (omega arith)
fits_next P (y ∷ ys) zero x lt is so_far here = (subst P is here, tt)
fits_next P (y ∷ ys) (suc i) x lt is so_far here = (so_far.0, fits_next P ys i x (omega arith) is so_far.1 here)

-- one more
pub fits_more : {X : Type 0} (P : X → Type 0) (xs : List X) (i : ℕ) (x : X) → i < length xs → x ≡ get_or xs i x
    → AllByRecursion P (take i xs) → P x → AllByRecursion P (take (i + 1) xs)
fits_more P xs i x lt is so_far here = rw add-one (fits_next P xs i x lt is so_far here)

-- what holds of all holds of the one at a place
pub fits_at : {X : Type 0} (P : X → Type 0) (xs ys : List X) (i : ℕ) (x : X) → ys ≡ xs → All P xs → i < length ys → x ≡ get_or ys i x → P x
fits_at {X} P xs ys i x same all lt is =
    let here : All P ys = subst (All P) (sym same) all in
    subst P (sym is) (here i x lt)

-- all
pub fits_all : {X : Type 0} (P : X → Type 0) (xs : List X) (i : ℕ) → length xs ≤ i → AllByRecursion P (take i xs) → AllByRecursion P xs
fits_all P xs i le fit = subst (AllByRecursion P) (take_all i xs le) fit

-- numbers below a limit, each by its place
pub fits_below : (limit : ℕ) (xs : List ℕ) → ((i : ℕ) → get_or xs i 0 < limit) → AllByRecursion (λ n. n < limit) xs
fits_below limit [] below = tt
fits_below limit (x ∷ xs) below = (below 0, fits_below limit xs (λ i. below (suc i)))

-- first some and then others
pub fits_both : {X : Type 0} (P : X → Type 0) (xs ys : List X) → AllByRecursion P xs → AllByRecursion P ys → AllByRecursion P (xs ++ ys)
fits_both P [] ys front back = back
fits_both P (x ∷ xs) ys front back = (front.0, fits_both P xs ys front.1 back)
