-- Fields of bytes, which read the same in each list with the same front, and bytes that are less than 256 each.
use Rattle.std.proofs.Common.{◌≡◌, ◌≢◌, ℕ, ◌+◌, ◌-◌, ◌<◌, ◌≤◌, List, ◌∷◌, ◌++◌, length, take, drop, zero, suc, refl, sym, ap, ◌∙◌, inl, inr, arith, length-drop}
use Rattle.std.proofs.lemmas.Bool.{cases_eq, cases_lt}
use Rattle.std.proofs.lemmas.List.{drop-append-le, drop-take, get_or-append_right, get_or-drop, get_or-take, get_or_append_left, get_or_past, length-take, take-append-le, take-take, take_all, take_at}
use Rattle.byteorder.specs.Endian.{little_number}
use Rattle.byteorder.specs.Numbers.{little_from-take}
use Rattle.repl_page.specs.Header.{field}
use Rattle.repl_record.specs.Record.{AreBytes}

-- numbers of which it is absurd that they differ
pub same_number : (a b : ℕ) → ¬ (a ≢ b) → a ≡ b
same_number a b not = elim (cases_eq a b) [ inl same ↦ same | inr differ ↦ absurd (not differ) ]

-- ---- parts of a list

-- what is after a place in a front
pub drop_of_take : (place n : ℕ) (bytes : List ℕ) → place ≤ n → drop place (take n bytes) ≡ take (n - place) (drop place bytes)
drop_of_take place n bytes within =
    let split : n ≡ place + (n - place) = omega arith in
    ap (λ (k : ℕ). drop place (take k bytes)) split ∙ drop-take place (n - place) bytes

-- a part that is whole in a front
pub part_of_front : (place n k : ℕ) (bytes : List ℕ) → place + n ≤ k → take n (drop place (take k bytes)) ≡ take n (drop place bytes)
part_of_front place n k bytes within = ap (take n) (drop_of_take place k bytes (omega arith))
    ∙ take-take n (k - place) (drop place bytes) (omega arith)

-- a part of what others follow
pub part_of_more : (place n : ℕ) (bytes more : List ℕ) → place + n ≤ length bytes
    → take n (drop place (bytes ++ more)) ≡ take n (drop place bytes)
part_of_more place n bytes more within =
    ap (take n) (drop-append-le place bytes more (omega arith))
    ∙ take-append-le n (drop place bytes) more (omega (arith, length-drop place bytes))

-- ---- fields

-- of a front
pub field-take : (place n k : ℕ) (bytes : List ℕ) → place + n ≤ k → field place n (take k bytes) ≡ field place n bytes
field-take place n k bytes within =
    ap (little_number n) (drop_of_take place k bytes (omega arith)) ∙ little_from-take 0 n (k - place) (drop place bytes) (omega arith)

-- of bytes with the same front
pub field-same : (place n k : ℕ) (xs ys : List ℕ) → take k xs ≡ take k ys → place + n ≤ k → field place n xs ≡ field place n ys
field-same place n k xs ys same within = sym (field-take place n k xs within) ∙ ap (field place n) same ∙ field-take place n k ys within

-- of bytes that others follow
pub field-append : (place n : ℕ) (xs ys : List ℕ) → place + n ≤ length xs → field place n (xs ++ ys) ≡ field place n xs
field-append place n xs ys within = field-same place n (length xs) (xs ++ ys) xs (take_at xs ys (length xs) refl
    ∙ sym (take_all (length xs) xs (omega arith))) within

-- ---- lists of bytes

pub AreBytes-cons : (byte : ℕ) (bytes : List ℕ) → byte < 256 → AreBytes bytes → AreBytes (byte ∷ bytes)
AreBytes-cons byte bytes first rest zero = first
AreBytes-cons byte bytes first rest (suc i) = rest i

pub AreBytes-append : (xs ys : List ℕ) → AreBytes xs → AreBytes ys → AreBytes (xs ++ ys)
AreBytes-append xs ys left right i =
    elim (cases_lt i (length xs)) [
      | inl inside ↦ rw (get_or_append_left xs ys 0 i inside) (left i)
      | inr past ↦ rw (get_or-append_right xs ys (length xs) i 0 refl past) (right (i - length xs))
    ]

pub AreBytes-take : (n : ℕ) (bytes : List ℕ) → AreBytes bytes → AreBytes (take n bytes)
AreBytes-take n bytes are i =
    elim (cases_lt i n) [
      | inl inside ↦ rw (get_or-take n bytes i 0 inside) (are i)
      | inr past ↦ rw (get_or_past (take n bytes) i 0 (omega (arith, length-take n bytes))) (omega arith)
    ]

pub AreBytes-drop : (n : ℕ) (bytes : List ℕ) → AreBytes bytes → AreBytes (drop n bytes)
AreBytes-drop n bytes are i = rw get_or-drop (are (n + i))
