-- Where a list leaves a language, told by where its rest leaves what the language is after its first elements.
use Rattle.std.proofs.Common.{◌≡◌, ℕ, suc, ◌+◌, ◌<◌, List, [], ◌∷◌, ◌++◌, length, get_or, take, drop, ⊎_elim, sym, subst, arith}
use Rattle.std.proofs.lemmas.Bool.{cases_lt}
use Rattle.std.proofs.lemmas.List.{drop_more, drop_all}
use Rattle.repl_text.specs.Language.{Begins, StopsAt}
use Rattle.repl_args.specs.Rests.{GoesOn}

pub stops_at_end : {A : Type 0} (L : List A → Type 0) → ¬ L [] → (some : List A) → L some → StopsAt L [] 0
stops_at_end L none some is = record {
  within = omega arith;
  refused = none;
  goes_on = (some, is);
  stops = λ h. absurd (omega arith);
}

pub stops_at_word : {A : Type 0} (L : List A → Type 0) (word : A) (rest : List A) → ((more : List A) → ¬ L (word ∷ more)) → (some : List A)
    → L some → StopsAt L (word ∷ rest) 0
stops_at_word L word rest none some is = record {
  within = omega arith;
  refused = none rest;
  goes_on = (some, is);
  stops = λ h b. none b.0 b.1;
}

pub stops_past : {A : Type 0} (L : List A → Type 0) (word : A) (rest : List A) (place : ℕ) → StopsAt (λ more. L (word ∷ more)) rest place
    → StopsAt L (word ∷ rest) (suc place)
stops_past L word rest place s = record {
  within = omega (arith, s.within);
  refused = s.refused;
  goes_on = (s.goes_on.0, s.goes_on.1);
  stops = λ h b.
      let e : suc place + 1 ≡ suc (place + 1) = omega arith in
      let c = subst (λ n. Begins L (take n (word ∷ rest))) e b in
      s.stops (omega arith) (c.0, c.1);
}

-- two languages with the same lists
pub stops_alike : {A : Type 0} (L M : List A → Type 0) (list : List A) (place : ℕ) → ((l : List A) → L l → M l) → ((l : List A) → M l → L l)
    → StopsAt L list place → StopsAt M list place
stops_alike L M list place there back s = record {
  within = s.within;
  refused = λ m. s.refused (back list m);
  goes_on = (s.goes_on.0, there (take place list ++ s.goes_on.0) s.goes_on.1);
  stops = λ h b. s.stops h (b.0, back (take (place + 1) list ++ b.0) b.1);
}

-- a language with more lists, but none more that begins so
pub stops_within : {A : Type 0} (L M : List A → Type 0) (word : A) (rest : List A) (place : ℕ) → ((l : List A) → M l → L l)
    → ((more : List A) → L (word ∷ more) → M (word ∷ more)) → StopsAt M (word ∷ rest) place → StopsAt L (word ∷ rest) place
stops_within L M word rest place there back s = record {
  within = s.within;
  refused = λ l. s.refused (back rest l);
  goes_on = (s.goes_on.0, there (take place (word ∷ rest) ++ s.goes_on.0) s.goes_on.1);
  stops = λ h b.
      let e : place + 1 ≡ suc place = omega arith in
      let c = subst (λ n. Begins L (take n (word ∷ rest))) e b in
      s.stops h (subst (λ n. Begins M (take n (word ∷ rest))) (sym e) (c.0, back (take place rest ++ c.0) c.1));
}

pub stops_within_nothing : {A : Type 0} (L M : List A → Type 0) (place : ℕ) → ((l : List A) → M l → L l) → (L [] → M [])
    → StopsAt M [] place → StopsAt L [] place
stops_within_nothing L M place there back s = record {
  within = s.within;
  refused = λ l. s.refused (back l);
  goes_on = (s.goes_on.0, there (take place [] ++ s.goes_on.0) s.goes_on.1);
  stops = λ h. absurd (omega arith);
}

-- ---- a reading that goes on

pub goes_on_none : {A : Type 0} (L : List A → Type 0) (list : List A) → GoesOn L list L 0
goes_on_none L list = record {
  stops = λ p s. let e : p ≡ 0 + p = omega arith in subst (λ n. StopsAt L list n) e s;
  is = λ l. l;
}

-- one word on
pub goes_on_more : {A : Type 0} (L : List A → Type 0) (list : List A) (rest next : List A → Type 0) (place : ℕ) (word : A)
    → drop place list ≡ word ∷ drop (place + 1) list → ((more : List A) → rest (word ∷ more) → next more)
    → ((more : List A) → next more → rest (word ∷ more)) → GoesOn L list rest place → GoesOn L list next (place + 1)
goes_on_more L list rest next place word parts there back g = record {
  stops = λ p s.
      let moved = stops_alike next (λ more. rest (word ∷ more)) (drop (place + 1) list) p back there s in
      let past = stops_past rest word (drop (place + 1) list) p moved in
      let e : place + suc p ≡ place + 1 + p = omega arith in
      subst (λ n. StopsAt L list n) e (g.stops (suc p) (subst (λ l. StopsAt rest l (suc p)) (sym parts) past));
  is = λ n. g.is (subst rest (sym parts) (back (drop (place + 1) list) n));
}

-- where the place is a word's, with any default
pub goes_on_at : {A : Type 0} (L : List A → Type 0) (list : List A) (rest next : List A → Type 0) (place : ℕ) (d : A) → place < length list
    → ((more : List A) → rest (get_or list place d ∷ more) → next more) → ((more : List A) → next more → rest (get_or list place d ∷ more))
    → GoesOn L list rest place → GoesOn L list next (place + 1)
goes_on_at L list rest next place d within there back g =
    goes_on_more L list rest next place (get_or list place d) (drop_more list place d within) there back g

-- ---- where a reading stops

pub stops_on : {A : Type 0} (L : List A → Type 0) (list : List A) (rest : List A → Type 0) (place p q : ℕ) → GoesOn L list rest place
    → StopsAt rest (drop place list) p → place + p ≡ q → StopsAt L list q
stops_on L list rest place p q g s e = subst (λ n. StopsAt L list n) e (g.stops p s)

-- at a word with which no list goes on; the default is any
pub stops_at_place : {A : Type 0} (L : List A → Type 0) (list : List A) (rest : List A → Type 0) (place : ℕ) (d : A)
    → GoesOn L list rest place → place < length list → ((more : List A) → ¬ rest (get_or list place d ∷ more)) → (some : List A) → rest some
    → StopsAt L list place
stops_at_place L list rest place d g within none some is =
    let here = stops_at_word rest (get_or list place d) (drop (place + 1) list) none some is in
    stops_on L list rest place 0 place g (subst (λ l. StopsAt rest l 0) (sym (drop_more list place d within)) here) (omega arith)

-- there, or after the last
pub stops_there : {A : Type 0} (L : List A → Type 0) (list : List A) (rest : List A → Type 0) (place : ℕ) (d : A) → GoesOn L list rest place
    → ¬ rest [] → (place < length list → (more : List A) → ¬ rest (get_or list place d ∷ more)) → (some : List A) → rest some
    → StopsAt L list place
stops_there L list rest place d g end none some is = ⊎_elim
    (λ within. stops_at_place L list rest place d g within (none within) some is)
    (λ past. stops_on L list rest place 0 place g (subst (λ l. StopsAt rest l 0) (sym (drop_all place list past)) (stops_at_end rest end some is))
    (omega arith))
    (cases_lt place (length list))
