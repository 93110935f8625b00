-- Names and values of options, read pair by pair.
use Rattle.std.proofs.Common.{◌≡◌, ℕ, ◌+◌, ◌<◌, ◌≤◌, true, List, [], ◌∷◌, ◌++◌, length, map, get_or, take, drop, inl, inr, ⊎_elim, refl, sym, ap, subst, ◌∙◌, arith, Contains, All, ◌≢◌, append_assoc}
use Rattle.std.proofs.lemmas.List.{take_more, drop_more, length-drop}
use Rattle.std.proofs.lemmas.List.Elements.{All-contains}
use Rattle.repl_text.specs.Language.{StopsAt}
use Rattle.repl_args.specs.Forms.{PlainOption, option_name, are_distinct}
use Rattle.repl_args.specs.Options.{HasValue, HasName, IsOptionOf, AreOptionsPast}
use Rattle.repl_args.specs.Rests.{GoesOn}
use Rattle.repl_args.proofs.Stops.{goes_on_at, stops_there, stops_at_place}
use Rattle.repl_args.proofs.Names.{one_of_name}

-- ---- where a name stops

-- a name that stands before already
pub name_is_gone : {K : Type 0} (is : K → List ℕ → Type 0) (options : List (PlainOption K)) (before : List (List ℕ)) (name : List ℕ)
    → HasName before name → (more : List (List ℕ)) → ¬ AreOptionsPast is options before (name ∷ more)
name_is_gone is options before name there [] a = a
name_is_gone is options before name there (value ∷ more) a = a.0 there

-- a name of no option
pub name_is_none : {K : Type 0} (is : K → List ℕ → Type 0) (options : List (PlainOption K)) (before : List (List ℕ)) (name : List ℕ)
    → All (λ (o : PlainOption K). o.name ≢ name) options → (more : List (List ℕ))
    → ¬ AreOptionsPast is options before (name ∷ more)
name_is_none is options before name none [] a = a
name_is_none {K} is options before name none (value ∷ more) a =
    All-contains (λ (o : PlainOption K). o.name ≢ name) options a.1.option none a.1.one a.1.named

pub stops_at_name : {K : Type 0} (is : K → List ℕ → Type 0) (options : List (PlainOption K)) (L : List (List ℕ) → Type 0)
    (before words : List (List ℕ)) (place : ℕ) → place < length words
    → ((more : List (List ℕ)) → ¬ AreOptionsPast is options before (get_or words place [] ∷ more))
    → GoesOn L words (AreOptionsPast is options before) place → StopsAt L words place
stops_at_name is options L before words place within none g =
    stops_at_place L words (AreOptionsPast is options before) place [] g within none [] tt

-- ---- where a value stops

pub stops_at_value : {K : Type 0} (is : K → List ℕ → Type 0) → ((kind : K) → (word : List ℕ) × is kind word)
    → (options : List (PlainOption K)) (o : PlainOption K) (L : List (List ℕ) → Type 0) (before words : List (List ℕ)) (place : ℕ)
    → place < length words → ¬ HasName before (get_or words place []) → Contains options o → o.name ≡ get_or words place []
    → are_distinct (map option_name options) ≡ true → (place + 1 < length words → ¬ is o.kind (get_or words (place + 1) []))
    → GoesOn L words (AreOptionsPast is options before) place → StopsAt L words (place + 1)
stops_at_value is some options o L before words place within fresh one named distinct none g =
    let A = AreOptionsPast is options before in
    let name = get_or words place [] in
    let value = some o.kind in
    let half : GoesOn L words (λ more. A (name ∷ more)) (place + 1) =
    goes_on_at L words A (λ more. A (name ∷ more)) place [] within (λ more a. a) (λ more a. a) g in
    stops_there L words (λ more. A (name ∷ more)) (place + 1) [] half (λ a. a)
    (λ there more a.
    let same = one_of_name option_name options o a.1.option distinct one a.1.one (named ∙ sym a.1.named) in
    none there (subst (λ p. is p.kind (get_or words (place + 1) [])) (sym same) a.1.valued))
    (value.0 ∷ []) (fresh, record { option = o; one = one; named = named; valued = value.1 }, tt)

-- ---- a pair on

two_more : (words : List (List ℕ)) (place : ℕ) → place + 1 < length words
    → take (place + 1 + 1) words ≡ take place words ++ get_or words place [] ∷ get_or words (place + 1) [] ∷ []
two_more words place within =
    take_more words (place + 1) [] within
    ∙ ap (λ front. front ++ get_or words (place + 1) [] ∷ []) (take_more words place [] (omega (arith, within)))
    ∙ append_assoc (take place words) (get_or words place [] ∷ []) (get_or words (place + 1) [] ∷ [])

pub pair : {K : Type 0} (is : K → List ℕ → Type 0) (options : List (PlainOption K)) (o : PlainOption K) (L : List (List ℕ) → Type 0)
    (words : List (List ℕ)) (place : ℕ) → place + 1 < length words → ¬ HasName (take place words) (get_or words place [])
    → Contains options o → o.name ≡ get_or words place [] → is o.kind (get_or words (place + 1) [])
    → GoesOn L words (AreOptionsPast is options (take place words)) place
    → GoesOn L words (AreOptionsPast is options (take (place + 1 + 1) words)) (place + 1 + 1)
pair is options o L words place within fresh one named valued g =
    let name = get_or words place [] in
    let value = get_or words (place + 1) [] in
    let before = take place words in
    let A = AreOptionsPast is options before in
    let N = AreOptionsPast is options (take (place + 1 + 1) words) in
    let e = two_more words place within in
    let half : GoesOn L words (λ more. A (name ∷ more)) (place + 1) =
    goes_on_at L words A (λ more. A (name ∷ more)) place [] (omega arith) (λ more a. a) (λ more a. a) g in
    goes_on_at L words (λ more. A (name ∷ more)) N (place + 1) [] within
    (λ more a. subst (λ b. AreOptionsPast is options b more) (sym e) a.2)
    (λ more a. (
      fresh,
      record { option = o; one = one; named = named; valued = valued },
      subst (λ b. AreOptionsPast is options b more) e a,
    )) half

-- ---- what stands in them

-- each value is one of an option
pub value_of_option : {K : Type 0} (is : K → List ℕ → Type 0) (options : List (PlainOption K)) (before words : List (List ℕ))
    (name value : List ℕ) → AreOptionsPast is options before words → HasValue words name value → IsOptionOf is options name value
value_of_option is options before [] name value a h = absurd h
value_of_option is options before (n ∷ []) name value a h = absurd h
value_of_option is options before (n ∷ v ∷ words) name value a h = ⊎_elim
    (λ here. subst (λ x. IsOptionOf is options x value) here.0 (subst (λ y. IsOptionOf is options n y) here.1 a.1))
    (λ later. value_of_option is options (before ++ n ∷ v ∷ []) words name value a.2 later) h

-- what stands before are pairs
abbrev ArePairs : List (List ℕ) → Type 0
ArePairs [] = Unit {0}
ArePairs (_ ∷ []) = ⊥
ArePairs (n ∷ v ∷ words) = ArePairs words

pairs_and_one : (before : List (List ℕ)) (n v : List ℕ) → ArePairs before → ArePairs (before ++ n ∷ v ∷ [])
pairs_and_one [] n v p = tt
pairs_and_one (m ∷ []) n v p = absurd p
pairs_and_one (m ∷ w ∷ before) n v p = pairs_and_one before n v p

has_the_last : (before : List (List ℕ)) (n v : List ℕ) → ArePairs before → HasValue (before ++ n ∷ v ∷ []) n v
has_the_last [] n v p = inl (refl, refl)
has_the_last (m ∷ []) n v p = absurd p
has_the_last (m ∷ w ∷ before) n v p = inr (has_the_last before n v p)

has_still : (before more : List (List ℕ)) (name value : List ℕ) → HasValue before name value → HasValue (before ++ more) name value
has_still [] more name value h = absurd h
has_still (m ∷ []) more name value h = absurd h
has_still (m ∷ w ∷ before) more name value h = ⊎_elim (λ here. inl here) (λ later. inr (has_still before more name value later)) h

not_again : {K : Type 0} (is : K → List ℕ → Type 0) (options : List (PlainOption K)) (before words : List (List ℕ)) (name old new : List ℕ)
    → AreOptionsPast is options before words → HasValue before name old → HasValue words name new → ⊥
not_again is options before [] name old new a o h = h
not_again is options before (n ∷ []) name old new a o h = h
not_again is options before (n ∷ v ∷ words) name old new a o h = ⊎_elim
    (λ here. a.0 (old, subst (λ x. HasValue before x old) (sym here.0) o))
    (λ later. not_again is options (before ++ n ∷ v ∷ []) words name old new a.2 (has_still before (n ∷ v ∷ []) name old o) later) h

-- a name has one value
pub one_value : {K : Type 0} (is : K → List ℕ → Type 0) (options : List (PlainOption K)) (before words : List (List ℕ))
    (name a b : List ℕ) → ArePairs before → AreOptionsPast is options before words → HasValue words name a → HasValue words name b → a ≡ b
one_value is options before [] name a b p all h k = absurd h
one_value is options before (n ∷ []) name a b p all h k = absurd h
one_value is options before (n ∷ v ∷ words) name a b p all h k =
    let last = has_the_last before n v p in
    let next = before ++ n ∷ v ∷ [] in
    ⊎_elim
    (λ here. ⊎_elim (λ also. sym here.1 ∙ also.1)
    (λ later. absurd (not_again is options next words name v b all.2 (subst (λ x. HasValue next x v) here.0 last) later)) k)
    (λ first. ⊎_elim (λ also. absurd (not_again is options next words name v a all.2 (subst (λ x. HasValue next x v) also.0 last) first))
    (λ later. one_value is options next words name a b (pairs_and_one before n v p) all.2 first later) k) h

-- ---- a look-up, pair by pair

pair_at : (words : List (List ℕ)) (place : ℕ) → place + 1 < length words
    → drop place words ≡ get_or words place [] ∷ get_or words (place + 1) [] ∷ drop (place + 2) words
pair_at words place within =
    let e : place + 1 + 1 ≡ place + 2 = omega arith in
    drop_more words place [] (omega (arith, within))
    ∙ ap (λ l. get_or words place [] ∷ l) (drop_more words (place + 1) [] within)
    ∙ ap (λ n. get_or words place [] ∷ get_or words (place + 1) [] ∷ drop n words) e

pub has_here : (words : List (List ℕ)) (place : ℕ) (name : List ℕ) → place + 1 < length words → get_or words place [] ≡ name
    → HasValue (drop place words) name (get_or words (place + 1) [])
has_here words place name within same =
    subst (λ l. HasValue l name (get_or words (place + 1) [])) (sym (pair_at words place within)) (inl (same, refl))

pub has_later : (words : List (List ℕ)) (place : ℕ) (name value : List ℕ) → place + 1 < length words
    → HasValue (drop (place + 2) words) name value → HasValue (drop place words) name value
has_later words place name value within h = subst (λ l. HasValue l name value) (sym (pair_at words place within)) (inr h)

pub has_only_later : (words : List (List ℕ)) (place : ℕ) (name value : List ℕ) → place + 1 < length words → get_or words place [] ≢ name
    → HasValue (drop place words) name value → HasValue (drop (place + 2) words) name value
has_only_later words place name value within differs h = ⊎_elim (λ here. absurd (differs here.0)) (λ later. later)
    (subst (λ l. HasValue l name value) (pair_at words place within) h)

has_none : (words : List (List ℕ)) (name value : List ℕ) → length words ≤ 1 → HasValue words name value → ⊥
has_none [] name value short h = h
has_none (n ∷ []) name value short h = h
has_none (n ∷ v ∷ words) name value short h = absurd (omega (arith, short))

pub has_none_past : (words : List (List ℕ)) (place : ℕ) (name value : List ℕ) → length words ≤ place + 1
    → HasValue (drop place words) name value → ⊥
has_none_past words place name value short h =
    has_none (drop place words) name value (omega (arith, short, length-drop place words)) h

pub has_moved : (a b : List (List ℕ)) (m n : List ℕ) → a ≡ b → m ≡ n → HasName a m → HasName b n
has_moved a b m n e f h = subst (λ l. HasName l n) e (subst (λ name. HasName a name) f h)
