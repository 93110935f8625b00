-- The names of segments that are not whole, and names that are none of the log's files.
use Rattle.std.proofs.Common.{
  ◌≡◌,
  ◌==◌,
  ℕ,
  Bool,
  true,
  false,
  not,
  ◌*◌,
  ◌^◌,
  ◌<◌,
  List,
  [],
  ◌∷◌,
  ◌++◌,
  length,
  get_or,
  take,
  drop,
  min,
  codes,
  refl,
  sym,
  ap,
  subst,
  ◌∙◌,
  inl,
  inr,
  ⊎_elim,
  arith,
}
use Rattle.std.proofs.lemmas.Bool.{cases_lt, not-false}
use Rattle.std.proofs.lemmas.Slice.Eq.{bytes_eq-Decides}
use Rattle.std.specs.Cmp.Lexicographic.{pointwise}
use Rattle.std.proofs.lemmas.List.{append-nil, take_all, drop_all, take_at, drop_at, take-append-drop, get_or_append_left}
use Rattle.std.proofs.lemmas.List.Elements.{All-get_or, All-head, All-tail}
use Rattle.repl_lsn.specs.Segment.{IsSegSize, LogFile, IsLogFile, IsDigit, AreDigits, Names, eight, segment_name, file_name}
use Rattle.repl_lsn.specs.Segment.LogFile.{segment, partial, history}
use Rattle.repl_lsn.specs.FileName.{NamesPartial, HasDigitsAnd, HasForm}
use Rattle.repl_lsn.proofs.Names.{numbers_of}
use Rattle.repl_lsn.proofs.Numbers.{length_eight, eight_digits}

-- ---- segments that are not whole

names_of : (size tli seg : ℕ) → (0 < tli) × (tli < 2 ^ 32) → seg * size < 2 ^ 64 → Names size (segment_name size tli seg) tli seg
names_of size tli seg timeline fits = record { timeline = timeline; fits = fits; named = refl }

pub segment_long : (size : ℕ) (text : List ℕ) (tli seg : ℕ) → IsSegSize size → NamesPartial size text tli seg
    → length (segment_name size tli seg) ≡ 24
segment_long size text tli seg h n = (numbers_of size (segment_name size tli seg) tli seg h (names_of size tli seg n.timeline n.fits)).long

pub front_names : (size : ℕ) (text : List ℕ) (tli seg : ℕ) → IsSegSize size → NamesPartial size text tli seg
    → Names size (take 24 text) tli seg
front_names size text tli seg h n = record {
  timeline = n.timeline;
  fits = n.fits;
  named = ap (take 24) n.named ∙ take_at (segment_name size tli seg) (codes ".partial") 24 (segment_long size text tli seg h n);
}

pub past_is : (size : ℕ) (text : List ℕ) (tli seg : ℕ) → IsSegSize size → NamesPartial size text tli seg → drop 24 text ≡ codes ".partial"
past_is size text tli seg h n =
    ap (drop 24) n.named ∙ drop_at (segment_name size tli seg) (codes ".partial") 24 (segment_long size text tli seg h n)

pub partial_read : (size : ℕ) (text : List ℕ) (tli seg : ℕ) → Names size (take 24 text) tli seg → drop 24 text ≡ codes ".partial"
    → NamesPartial size text tli seg
partial_read size text tli seg n past = record {
  timeline = n.timeline;
  fits = n.fits;
  named = sym (take-append-drop 24 text) ∙ ap (λ x. x ++ drop 24 text) n.named ∙ ap (λ x. segment_name size tli seg ++ x) past;
}

-- ---- the forms of names

segment_digits : (size tli seg : ℕ) → IsSegSize size → (0 < tli) × (tli < 2 ^ 32) → seg * size < 2 ^ 64
    → (length (segment_name size tli seg) ≡ 24) × AreDigits (segment_name size tli seg)
segment_digits size tli seg h timeline fits =
    let n = numbers_of size (segment_name size tli seg) tli seg h (names_of size tli seg timeline fits) in
    (n.long, n.digits)

pub name_has_form : (size : ℕ) (file : LogFile) → IsSegSize size → IsLogFile size file → HasForm (file_name size file)
name_has_form size (segment tli seg) h is =
    let d = segment_digits size tli seg h (is.0, is.1) is.2 in
    inl (record { digits = segment_name size tli seg; long = d.0; are = d.1; parts = sym (append-nil (segment_name size tli seg)) })
name_has_form size (partial tli seg) h is =
    let d = segment_digits size tli seg h (is.0, is.1) is.2 in
    inr (inl (record { digits = segment_name size tli seg; long = d.0; are = d.1; parts = refl }))
name_has_form size (history tli) h is =
    inr (inr (record { digits = eight tli; long = length_eight tli is.1; are = eight_digits tli is.1; parts = refl }))

-- ---- names that have none of the forms

-- the first byte is a digit
digit_first : (count : ℕ) (past name : List ℕ) → 0 < count → HasDigitsAnd count past name → IsDigit (get_or name 0 0)
digit_first count past name some h =
    subst IsDigit (sym (ap (λ x. get_or x 0 0) h.parts ∙ get_or_append_left h.digits past 0 0 (omega (arith, h.long))))
    (All-get_or IsDigit h.digits 0 0 (omega (arith, h.long)) h.are)

pub begins_with_digit : (name : List ℕ) → HasForm name → IsDigit (get_or name 0 0)
begins_with_digit name (inl h) = digit_first 24 (codes "") name (omega arith) h
begins_with_digit name (inr (inl h)) = digit_first 24 (codes ".partial") name (omega arith) h
begins_with_digit name (inr (inr h)) = digit_first 8 (codes ".history") name (omega arith) h

pub other_first : (size : ℕ) (file : LogFile) (name : List ℕ) → IsSegSize size → IsLogFile size file → 96 < get_or name 0 0
    → file_name size file ≡ name → ⊥
other_first size file name h is letter e =
    let digit = begins_with_digit (file_name size file) (name_has_form size file h is) in
    omega (arith, digit.1, ap (λ x. get_or x 0 0) e)

-- the last byte
last : List ℕ → ℕ
last [] = 0
last (c ∷ []) = c
last (c ∷ d ∷ cs) = last (d ∷ cs)

last_append : (front : List ℕ) (c : ℕ) (past : List ℕ) → last (front ++ c ∷ past) ≡ last (c ∷ past)
unfolding last
last_append [] c past = refl
last_append (x ∷ []) c past = refl
last_append (x ∷ y ∷ front) c past = last_append (y ∷ front) c past

last_digit : (digits : List ℕ) → 0 < length digits → AreDigits digits → last digits < 97
unfolding last
last_digit [] some d = absurd (omega arith)
last_digit (c ∷ []) some d = (All-head IsDigit c [] d).1
last_digit (c ∷ e ∷ cs) some d = last_digit (e ∷ cs) (omega arith) (All-tail IsDigit c (e ∷ cs) d)

-- a `p` ends no name of the log's
no_p : (name : List ℕ) → HasForm name → last name ≡ 112 → ⊥
unfolding last
no_p name (inl h) e =
    let l = last_digit h.digits (omega (arith, h.long)) h.are in
    omega (arith, ap last (sym (h.parts ∙ append-nil h.digits)) ∙ e)
no_p name (inr (inl h)) e =
    let l : last (codes ".partial") ≡ 112 = sym (last_append h.digits 46 (codes "partial")) ∙ ap last (sym h.parts) ∙ e in
    omega arith
no_p name (inr (inr h)) e =
    let l : last (codes ".history") ≡ 112 = sym (last_append h.digits 46 (codes "history")) ∙ ap last (sym h.parts) ∙ e in
    omega arith

pub no_temporary : (size : ℕ) (file : LogFile) (name : List ℕ) → IsSegSize size → IsLogFile size file
    → file_name size file ≡ name ++ codes ".tmp" → ⊥
unfolding last
no_temporary size file name h is e =
    no_p (file_name size file) (name_has_form size file h is) (ap last e ∙ last_append name 46 (codes "tmp"))

-- ---- the first 24 bytes

pub front_of : (text : List ℕ) → take (min (length text) 24) text ≡ take 24 text
front_of text = ⊎_elim
    (λ l. let e : min (length text) 24 ≡ length text = omega arith in ap (λ n. take n text) e ∙ take_all (length text) text (omega arith)
    ∙ sym (take_all 24 text (omega arith)))
    (λ l. let e : min (length text) 24 ≡ 24 = omega arith in ap (λ n. take n text) e)
    (cases_lt (length text) 24)

pub past_of : (text : List ℕ) → drop (min (length text) 24) text ≡ drop 24 text
past_of text = ⊎_elim
    (λ l. let e : min (length text) 24 ≡ length text = omega arith in ap (λ n. drop n text) e ∙ drop_all (length text) text (omega arith)
    ∙ sym (drop_all 24 text (omega arith)))
    (λ l. let e : min (length text) 24 ≡ 24 = omega arith in ap (λ n. drop n text) e)
    (cases_lt (length text) 24)

-- what a test of the bytes after them says
clash : (p q : Bool) → p ≡ not q → p ≡ true → q ≡ true → ⊥
clash p q e t s = let no : true ≡ false = sym t ∙ e ∙ ap not s in absurd cc

pub past_tested : (bytes suffix : List ℕ) (differs : Bool) → differs ≡ not (pointwise ◌==◌ bytes suffix) → (differs ≡ true
    → bytes ≡ suffix → ⊥) × (differs ≡ false → bytes ≡ suffix)
past_tested bytes suffix differs e =
    let test = bytes_eq-Decides bytes suffix in (
      λ t same. clash differs (pointwise ◌==◌ bytes suffix) e t (test.1 same),
      λ f. test.0 (not-false (pointwise ◌==◌ bytes suffix) (sym e ∙ f)),
    )
