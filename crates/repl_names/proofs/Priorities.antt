-- The first entry that matches, and its place.
use Rattle.std.proofs.Common.{◌≡◌, ℕ, ◌+◌, ◌<◌, ◌^◌, true, false, List, [], ◌∷◌, ◌++◌, length, get_or, take, drop, map, codes, bytes_eq, Option, Some, None, option_map, unwrap_or, refl, sym, ap, ◌∙◌, subst, inl, inr, ⊎_elim, arith}
use Rattle.std.specs.Char.{to_ascii_lowercase}
use Rattle.std.specs.List.{All, position, position_or_len}
use Rattle.std.proofs.lemmas.Bool.{cases_lt, cond-true, lt-ltb, or_cases, or_left, or_right, true≢false}
use Rattle.std.proofs.lemmas.List.{take-append-drop, drop_more, get_or-take, length-take-le}
use Rattle.std.proofs.lemmas.List.Elements.{All-from_get_or}
use Rattle.std.proofs.lemmas.List.Quantifiers.{position-Some}
use Rattle.std.proofs.lemmas.List.Sums.{fails_before_first}
use Rattle.std.proofs.lemmas.Slice.Eq.{bytes_eq-Decides}
use Rattle.repl_names.specs.StandbyList.{Listing, IsListing, Matches, IsPriority, matches, priority_of}
use Rattle.repl_names.proofs.Printing.{length_names}

-- ---- the test

matches_true : (name entry : List ℕ) → matches name entry ≡ true → Matches name entry
matches_true name entry e = ⊎_elim
    (λ star. inl ((bytes_eq-Decides entry (codes "*")).0 star))
    (λ same. inr ((bytes_eq-Decides (map to_ascii_lowercase entry) (map to_ascii_lowercase name)).0 same))
    (or_cases (bytes_eq entry (codes "*")) (bytes_eq (map to_ascii_lowercase entry) (map to_ascii_lowercase name)) e)

true_matches : (name entry : List ℕ) → Matches name entry → matches name entry ≡ true
true_matches name entry (inl star) = or_left (bytes_eq entry (codes "*"))
    (bytes_eq (map to_ascii_lowercase entry) (map to_ascii_lowercase name))
    ((bytes_eq-Decides entry (codes "*")).1 star)
true_matches name entry (inr same) = or_right (bytes_eq entry (codes "*"))
    (bytes_eq (map to_ascii_lowercase entry) (map to_ascii_lowercase name))
    ((bytes_eq-Decides (map to_ascii_lowercase entry) (map to_ascii_lowercase name)).1 same)

matches_false : (name entry : List ℕ) → matches name entry ≡ false → ¬ Matches name entry
matches_false name entry e m = true≢false (sym (true_matches name entry m) ∙ e)

-- ---- the first that matches

pub priority_some : (entries : List (List ℕ)) (name : List ℕ) (place : ℕ) → position (matches name) entries ≡ Some place
    → (place < length entries) × (place + 1 ≡ priority_of entries name) × IsPriority entries name (place + 1)
priority_some entries name place e =
    let h = position-Some (matches name) entries place [] e in
    let within : place < length entries = h.0 in
    let size : length (take place entries) ≡ place = length-take-le place entries (omega arith) in
    let split : entries ≡ take place entries ++ get_or entries place [] ∷ drop (place + 1) entries =
    sym (take-append-drop place entries) ∙ ap (λ x. take place entries ++ x) (drop_more entries place [] within) in
    let none : All (λ entry. ¬ Matches name entry) (take place entries) =
    All-from_get_or (λ entry. ¬ Matches name entry) (take place entries) []
    (λ k l.
    let below : k < place = omega arith in
    subst (λ entry. ¬ Matches name entry) (sym (get_or-take place entries k [] below))
    (matches_false name (get_or entries k []) (h.2 k below))) in (
      within,
      ap (λ (o : Option ℕ). unwrap_or (option_map (λ p. p + 1) o) 0) (sym e),
      inr (
        take place entries,
        get_or entries place [],
        drop (place + 1) entries,
        split,
        ap (λ n. n + 1) (sym size),
        none,
        matches_true name (get_or entries place []) h.1,
      ),
    )

none_match : (name : List ℕ) (entries : List (List ℕ)) → position (matches name) entries ≡ None
    → All (λ entry. ¬ Matches name entry) entries
none_match name entries e = ⊎_elim
    (λ l.
    let found : position (matches name) entries ≡ Some (position_or_len (matches name) entries) = cond-true _ _ _ (lt-ltb _ _ l) in
    let differ : None ≡ Some (position_or_len (matches name) entries) = sym e ∙ found in
    cc)
    (λ l.
    All-from_get_or (λ entry. ¬ Matches name entry) entries []
    (λ i k. matches_false name (get_or entries i []) (fails_before_first (matches name) entries i [] (omega arith))))
    (cases_lt (position_or_len (matches name) entries) (length entries))

pub priority_none : (entries : List (List ℕ)) (name : List ℕ) → position (matches name) entries ≡ None
    → (0 ≡ priority_of entries name) × IsPriority entries name 0
priority_none entries name e = (
  ap (λ (o : Option ℕ). unwrap_or (option_map (λ p. p + 1) o) 0) (sym e),
  inl
      (refl, none_match name entries e),
)

-- the place fits a number of 32 bits
pub place_fits : (list : Listing) (place : ℕ) → IsListing list → place < length list.names → place + 1 < 2 ^ 32
place_fits list place h within = omega (arith, length_names list, h.short)
