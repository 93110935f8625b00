-- Names that are distinct tell apart what they name.
use Rattle.std.proofs.Common.{◌≡◌, ℕ, suc, zero, ◌+◌, ◌<◌, Bool, true, false, ◌&&◌, List, [], ◌∷◌, ◌++◌, length, map, ◌⊎◌, inl, inr, ⊎_elim, Option, Some, None, refl, sym, ap, subst, ◌∙◌, arith, Contains, All, get_or, take, ◌≤◌, nat_lt, slice_get}
use Rattle.std.specs.Prelude.{not}
use Rattle.std.specs.List.{list_any, list_all}
use Rattle.std.specs.Str.{bytes_eq}
use Rattle.std.proofs.lemmas.Bool.{false≢true, and_parts, or_parts, not-true, ltb-true}
use Rattle.std.proofs.lemmas.Option.{slice_get_within, get_or_from_slice_get}
use Rattle.std.proofs.lemmas.List.{map_more, take_all}
use Rattle.std.proofs.lemmas.List.Elements.{All-push}
use Rattle.std.proofs.lemmas.Slice.Eq.{bytes_eq-Decides}
use Rattle.repl_args.specs.Forms.{PlainOption, PlainForm, PlainTable, are_distinct, are_options_distinct, lead_names, form_name, is_table}

-- ---- elements of lists

contains_at : {A : Type 0} (x : A) (xs : List A) (y : A) (k : ℕ) → k < length (x ∷ xs) → get_or (x ∷ xs) k y ≡ y → (x ≡ y) ⊎ Contains xs y
contains_at x xs y zero within is = inl is
contains_at x xs y (suc k) within is = inr (k, omega (arith, within), is)

-- an element of a list is its first or one of the others
pub contains_cases : {A : Type 0} (x : A) (xs : List A) (y : A) → Contains (x ∷ xs) y → (x ≡ y) ⊎ Contains xs y
contains_cases x xs y c = contains_at x xs y c.0 c.1 c.2

pub contains_at_place : {A : Type 0} (xs : List A) (i : ℕ) (x : A) → slice_get xs i ≡ Some x → Contains xs x
contains_at_place xs i x e = (i, slice_get_within xs i x e, get_or_from_slice_get xs i x x e)

pub nothing_in_none : {A : Type 0} (y : A) → Contains [] y → ⊥
nothing_in_none y c = absurd (omega (arith, c.1))

pub some_in : {A : Type 0} (xs : List A) → 0 < length xs → (x : A) × Contains xs x
some_in [] within = absurd (omega (arith, within))
some_in (x ∷ xs) within = (x, (0, omega arith, refl))

pub passes : {A : Type 0} (p : A → Bool) (xs : List A) (y : A) → list_all p xs ≡ true → Contains xs y → p y ≡ true
passes p [] y all c = absurd (nothing_in_none y c)
passes p (x ∷ xs) y all c =
    let parts = and_parts (p x) (list_all p xs) all in
    ⊎_elim (λ same. subst (λ z. p z ≡ true) same parts.0) (λ later. passes p xs y parts.1 later) (contains_cases x xs y c)

-- ---- names

other_bytes : (a b : List ℕ) → bytes_eq a b ≡ false → a ≡ b → ⊥
other_bytes a b differ same = absurd (false≢true (sym differ ∙ (bytes_eq-Decides a b).1 same))

not_among : {A : Type 0} (key : A → List ℕ) (name : List ℕ) (xs : List A) (y : A) → list_any (bytes_eq name) (map key xs) ≡ false
    → Contains xs y → name ≡ key y → ⊥
not_among key name [] y none c same = nothing_in_none y c
not_among key name (x ∷ xs) y none c same =
    let parts = or_parts (bytes_eq name (key x)) (list_any (bytes_eq name) (map key xs)) none in
    ⊎_elim (λ first. other_bytes name (key x) parts.0 (same ∙ ap key (sym first))) (λ later. not_among key name xs y parts.1 later same)
    (contains_cases x xs y c)

-- what has one name is one
pub one_of_name : {A : Type 0} (key : A → List ℕ) (xs : List A) (a b : A) → are_distinct (map key xs) ≡ true → Contains xs a → Contains xs b
    → key a ≡ key b → a ≡ b
one_of_name key [] a b distinct c d same = absurd (nothing_in_none a c)
one_of_name key (x ∷ xs) a b distinct c d same =
    let parts = and_parts (not (list_any (bytes_eq (key x)) (map key xs))) (are_distinct (map key xs)) distinct in
    let none = not-true (list_any (bytes_eq (key x)) (map key xs)) parts.0 in
    ⊎_elim
    (λ a_first. ⊎_elim (λ b_first. sym a_first ∙ b_first) (λ b_later. absurd (not_among key (key x) xs b none b_later (ap key a_first ∙ same)))
    (contains_cases x xs b d))
    (λ a_later. ⊎_elim (λ b_first. absurd (not_among key (key x) xs a none a_later (ap key b_first ∙ sym same)))
    (λ b_later. one_of_name key xs a b parts.1 a_later b_later same) (contains_cases x xs b d)) (contains_cases x xs a c)

-- ---- a table

distinct_past : {K : Type 0} (lead : Option (PlainOption K)) (names : List (List ℕ)) → are_distinct (lead_names lead ++ names) ≡ true
    → are_distinct names ≡ true
distinct_past None names distinct = distinct
distinct_past (Some o) names distinct = (and_parts (not (list_any (bytes_eq o.name) names)) (are_distinct names) distinct).1

apart : {K A : Type 0} (key : A → List ℕ) (lead : Option (PlainOption K)) (xs : List A) (o : PlainOption K) (x : A)
    → are_distinct (lead_names lead ++ map key xs) ≡ true → lead ≡ Some o → Contains xs x → o.name ≡ key x → ⊥
apart key None xs o x distinct is c same = absurd (cc)
apart key (Some l) xs o x distinct is c same =
    let parts = and_parts (not (list_any (bytes_eq l.name) (map key xs))) (are_distinct (map key xs)) distinct in
    let one : l ≡ o = cc in
    not_among key l.name xs x (not-true (list_any (bytes_eq l.name) (map key xs)) parts.0) c (ap (λ o. o.name) one ∙ same)

-- what the test of a table says
pub record AreApart {K C : Type 0} (table : PlainTable K C) : Type 0 where
  pub some : 0 < length table.forms
  pub forms : (f g : PlainForm K C) → Contains table.forms f → Contains table.forms g → f.name ≡ g.name → f ≡ g
  pub lead : (o : PlainOption K) (f : PlainForm K C) → table.lead ≡ Some o → Contains table.forms f → o.name ≡ f.name → ⊥
  pub options : (f : PlainForm K C) → Contains table.forms f → are_options_distinct f.tail ≡ true

pub are_apart : {K C : Type 0} (table : PlainTable K C) → is_table table ≡ true → AreApart table
are_apart {K} {C} table test =
    let names = lead_names table.lead ++ map form_name table.forms in
    let parts = and_parts (nat_lt 0 (length table.forms) && are_distinct names)
    (list_all (λ (f : PlainForm K C). are_options_distinct f.tail) table.forms) test in
    let front = and_parts (nat_lt 0 (length table.forms)) (are_distinct names) parts.0 in
    record {
      some = ltb-true 0 (length table.forms) front.0;
      forms = λ f g c d same. one_of_name form_name table.forms f g
          (distinct_past table.lead (map form_name table.forms) front.1) c d same;
      lead = λ o f is c same. apart form_name table.lead table.forms o f front.1 is c same;
      options = λ f c. passes (λ (f : PlainForm K C). are_options_distinct f.tail) table.forms f parts.1 c;
    }

-- ---- a search

-- one element more that is not it
pub none_more : {A B : Type 0} (f : A → B) (P : B → Type 0) (xs : List A) (i : ℕ) (x : A) → i < length xs → x ≡ get_or xs i x → P (f x)
    → All P (map f (take i xs)) → All P (map f (take (i + 1) xs))
none_more f P xs i x within is p all =
    subst (λ l. All P l) (sym (map_more f xs i x within))
    (All-push P (map f (take i xs)) (f (get_or xs i x)) all (subst (λ y. P (f y)) is p))

pub none_in_all : {A B : Type 0} (f : A → B) (P : B → Type 0) (xs : List A) (i : ℕ) → length xs ≤ i → All P (map f (take i xs)) → All P (map f xs)
none_in_all f P xs i all none = subst (λ l. All P (map f l)) (take_all i xs all) none
