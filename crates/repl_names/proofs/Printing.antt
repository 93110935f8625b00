-- The spelling of names, one more name at its end, and its length.
use Rattle.std.proofs.Common.{◌≡◌, ℕ, zero, suc, ◌+◌, ◌<◌, ◌≤◌, List, [], ◌∷◌, ◌++◌, length, get_or, take, codes, bytes_eq, true, false, cond, refl, sym, ap, ◌∙◌, arith, length-append}
use Rattle.std.proofs.lemmas.List.{append_assoc, append-nil, take_more, length-take-le}
use Rattle.repl_token.specs.Token.{quoted}
use Rattle.repl_names.specs.StandbyList.{Listing, name_spelling, names_spelling, spelling_of, list_spelling}

names_spelling_push : (names : List (List ℕ)) (name : List ℕ) → 0 < length names
    → names_spelling (names ++ name ∷ []) ≡ names_spelling names ++ codes ", " ++ name_spelling name
names_spelling_push [] name some = absurd (omega arith)
names_spelling_push (first ∷ []) name some = refl
names_spelling_push (first ∷ second ∷ names) name some = rw (names_spelling_push (second ∷ names) name (omega arith)) (simp append_assoc)

-- nothing goes before the first name
pub first_name : (names : List (List ℕ)) (i : ℕ) (name start : List ℕ) → i ≡ 0 → i < length names → name ≡ get_or names i name
    → (start ++ names_spelling (take i names)) ++ name_spelling name ≡ start ++ names_spelling (take (i + 1) names)
first_name [] i name start none within is = absurd (omega arith)
first_name (first ∷ names) zero name start none within is = ap (λ x. x ++ name_spelling name) (append-nil start)
    ∙ ap (λ x. start ++ name_spelling x) is
first_name (first ∷ names) (suc i) name start none within is = absurd (omega arith)

-- a comma and a space go before any other
pub next_name : (names : List (List ℕ)) (i : ℕ) (name start : List ℕ) → 0 < i → i < length names → name ≡ get_or names i name
    → (start ++ names_spelling (take i names)) ++ codes ", " ++ name_spelling name ≡ start ++ names_spelling (take (i + 1) names)
next_name names i name start some within is =
    let size : length (take i names) ≡ i = length-take-le i names (omega arith) in
    let more : take (i + 1) names ≡ take i names ++ name ∷ [] = take_more names i name within ∙ ap (λ x. take i names ++ x ∷ []) (sym is) in
    let spelled : names_spelling (take (i + 1) names) ≡ names_spelling (take i names) ++ codes ", " ++ name_spelling name =
    ap names_spelling more ∙ names_spelling_push (take i names) name (omega arith) in
    rw spelled (simp append_assoc)

-- even `*` has one byte
one_byte : (name : List ℕ) → 0 < length (name_spelling name)
one_byte name = elim (bytes_eq name (codes "*")) as (λ b. 0 < length (cond b (codes "*")
    (quoted 34 name))) [ true ↦ omega arith | false ↦ omega arith ]

length_names_le : (names : List (List ℕ)) → length names ≤ length (names_spelling names)
length_names_le [] = omega arith
length_names_le (name ∷ []) = one_byte name
length_names_le (name ∷ second ∷ names) = omega (
  arith,
  one_byte name,
  length_names_le (second ∷ names),
  length-append
      (name_spelling name ++ codes ", ") (names_spelling (second ∷ names)),
  length-append (name_spelling name) (codes ", "),
)

length_names_of : (list : Listing) (names : List (List ℕ)) → length names ≤ length (spelling_of list names)
length_names_of list [] = omega arith
length_names_of list (name ∷ names) = simp length-append (omega (arith, length_names_le (name ∷ names)))

-- a list has no more names than its spelling has bytes
pub length_names : (list : Listing) → length list.names ≤ length (list_spelling list)
length_names list = length_names_of list list.names
