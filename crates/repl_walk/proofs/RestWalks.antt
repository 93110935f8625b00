-- A step over the rest of a record, page by page: what was passed over, and what is answered.
use Rattle.std.proofs.Common.{
  ◌≡◌,
  ℕ,
  ◌+◌,
  ◌-◌,
  ◌%◌,
  ◌≢◌,
  ◌<◌,
  ◌≤◌,
  ◌⊎◌,
  List,
  ◌++◌,
  length,
  take,
  drop,
  get_or,
  sym,
  ap,
  ◌∙◌,
  subst,
  inl,
  inr,
  arith,
  append_assoc,
  length-append,
  length-drop,
}
use Rattle.std.proofs.Math.Seq.{take-add}
use Rattle.std.proofs.lemmas.Bool.{cases_lt}
use Rattle.std.proofs.lemmas.List.{get_or_append_left, get_or_past, length-take, take-append-drop, take-append-le}
use Rattle.repl_page.specs.declared.ident.Ident.{Ident}
use Rattle.repl_page.specs.Header.{IsPageFault, header_of}
use Rattle.repl_page.specs.Page.{header_length}
use Rattle.repl_record.specs.declared.answer.WalkReason.{WalkReason}
use Rattle.repl_record.specs.declared.answer.WalkReason.TheVariants as why
use Rattle.repl_record.specs.Record.{content}
use Rattle.repl_record.specs.Walker.{AreOn}
use Rattle.repl_record.proofs.Fields.{part_of_more}
use Rattle.repl_walk.specs.declared.rest.Rest.{Rest}
use Rattle.repl_walk.specs.Rest.{
  HasPassed,
  HeadersFit,
  IsRest,
  IsRestBegun,
  IsRestFault,
  IsRestWhole,
  header_at,
  left_of,
  rest_identity,
  rest_position,
}

-- ---- more bytes

pub whole_more : (ident : Ident) (timeline : ℕ → ℕ) (rest from end : ℕ) (log more : List ℕ) → IsRestWhole ident timeline rest from log end
    → IsRestWhole ident timeline rest from (log ++ more) end
whole_more ident timeline rest from end log more is = record {
  after = is.after;
  within = omega (arith, is.within, length-append log more);
  rest_is = subst (IsRest ident timeline rest from) (sym (take-append-le (end - from) log more (omega (arith, is.within)))) is.rest_is;
}

pub fault_more : (ident : Ident) (timeline : ℕ → ℕ) (rest from at : ℕ) (reason : WalkReason) (log more : List ℕ)
    → IsRestFault ident timeline rest from log at reason → IsRestFault ident timeline rest from (log ++ more) at reason
fault_more ident timeline rest from at (why.Page fault) log more is =
    let size = ident.size in
    let front : take (at - from) log ≡ take (at - from) (log
    ++ more) = sym (take-append-le (at - from) log more (omega (arith, is.whole))) in
    let header : header_at size from log at ≡ header_at size from (log ++ more) at =
    sym (part_of_more (at - from) (header_length size at) log more (omega (arith, is.whole, is.began))) in
    record {
      is_page = is.is_page;
      began = is.began;
      whole = omega (arith, is.whole, length-append log more);
      before = subst (HeadersFit ident timeline rest from) front is.before;
      goes_on = subst (λ (t : List ℕ). length (content size from t) < rest) front is.goes_on;
      fault = subst (λ (t : List ℕ). IsPageFault (header_of ident (timeline at) at (rest - length (content size from t)))
          (header_at size from (log ++ more) at) fault) front
          (subst (λ (h : List ℕ). IsPageFault (header_of ident (timeline at) at (left_of size rest from log at)) h fault) header is.fault);
    }
fault_more ident timeline rest from at why.Padding log more is = (
  is.0,
  record {
    front = is.1.front;
    past = is.1.past ++ more;
    parts = ap (λ (t : List ℕ). t ++ more) is.1.parts ∙ append_assoc is.1.front is.1.past more;
    headers = is.1.headers;
    bytes = is.1.bytes;
    last = is.1.last;
    place = is.1.place;
    unrounded = is.1.unrounded;
    inside = is.1.inside;
    wrong = λ zero. is.1.wrong (still is.1.place is.1.past more is.1.wrong zero);
  },
)
  where
    still : (i : ℕ) (bytes more : List ℕ) → get_or bytes i 0 ≢ 0 → get_or (bytes ++ more) i 0 ≡ 0 → get_or bytes i 0 ≡ 0
    still i bytes more set zero =
        elim (cases_lt i (length bytes)) [
          | inl inside ↦ sym (get_or_append_left bytes more 0 i inside) ∙ zero
          | inr past ↦ absurd (set (get_or_past bytes i 0 past))
        ]
fault_more ident timeline rest from at (why.Length found) log more is = absurd is
fault_more ident timeline rest from at (why.Prev found expected) log more is = absurd is
fault_more ident timeline rest from at why.Reserved log more is = absurd is
fault_more ident timeline rest from at (why.Checksum found computed) log more is = absurd is

-- ---- a step

-- What was taken so far is the beginning of the rest; where more bytes follow, whole pages were passed over.
pub record Passing (old r : Rest) (tli : ℕ) (bytes : List ℕ) (used : ℕ) : Type 0 where
  pub within : used ≤ length bytes
  pub full : (used ≡ length bytes) ⊎ (used % 8192 ≡ 0)
  pub same : rest_identity r ≡ rest_identity old
  pub low : rest_position r ≤ rest_position old + used
  pub begun : (timeline : ℕ → ℕ) (rest from : ℕ) (log : List ℕ) → HasPassed old timeline rest from log
      → AreOn timeline tli (rest_position old) (length bytes) → IsRestBegun (rest_identity old) timeline rest from (log ++ take used bytes)
  pub passed : (timeline : ℕ → ℕ) (rest from : ℕ) (log : List ℕ) → HasPassed old timeline rest from log
      → AreOn timeline tli (rest_position old) (length bytes) → (used < length bytes) ⊎ ((from + length (log
      ++ take used bytes)) % 8192 ≡ 0)
      → HasPassed r timeline rest from (log ++ take used bytes)

-- the part that is taken next
pub next_part : (log bytes : List ℕ) (used n : ℕ) → (log ++ take used bytes) ++ take n (drop used bytes) ≡ log ++ take (used + n) bytes
next_part log bytes used n = append_assoc log (take used bytes) (take n (drop used bytes))
    ∙ ap (λ (t : List ℕ). log ++ t) (sym (take-add used n bytes))

-- the next page is on the timeline
pub page_is_on : {old r : Rest} {tli : ℕ} {bytes : List ℕ} {used : ℕ} (timeline : ℕ → ℕ) (rest from : ℕ) (log : List ℕ)
    → Passing old r tli bytes used → HasPassed old timeline rest from log → AreOn timeline tli (rest_position old) (length bytes)
    → used < length bytes → timeline (rest_position r) ≡ tli
page_is_on {bytes = bytes} {used = used} timeline rest from log passing passed on some =
    let now = passing.passed timeline rest from log passed on (inl some) in
    on _ now.on_page (omega (arith, now.past, passed.past, length-append log (take used bytes))) (omega (
      arith,
      now.past,
      passed.past,
      length-append log (take used bytes),
      length-take used bytes,
    ))

-- one page more, or the last bytes
pub passing_on : (old r new : Rest) (tli used n : ℕ) (bytes : List ℕ) → Passing old r tli bytes used → used < length bytes
    → used + n ≤ length bytes → (n ≡ 8192) ⊎ (used + n ≡ length bytes) → rest_identity new ≡ rest_identity r
    → rest_position new ≤ rest_position r + n
    → ((timeline : ℕ → ℕ) (rest from : ℕ) (log : List ℕ) → HasPassed r timeline rest from log → timeline (rest_position r) ≡ tli
    → IsRestBegun (rest_identity r) timeline rest from (log ++ take n (drop used bytes)))
    → ((timeline : ℕ → ℕ) (rest from : ℕ) (log : List ℕ) → HasPassed r timeline rest from log → timeline (rest_position r) ≡ tli
    → (from + length (log ++ take n (drop used bytes))) % 8192 ≡ 0 → HasPassed new timeline rest from (log ++ take n (drop used bytes)))
    → Passing old new tli bytes (used + n)
passing_on old r new tli used n bytes passing some within whole same low begun goes = record {
  within = within;
  full = elim whole [
    | inl page ↦ inr (elim passing.full [
      | inl all ↦ absurd (omega arith)
      | inr pages ↦ omega arith
    ])
    | inr all ↦ inl all
  ];
  same = same ∙ passing.same;
  low = omega (arith, low, passing.low);
  begun = λ timeline rest from log passed on.
      let now = passing.passed timeline rest from log passed on (inl some) in
      let is = begun timeline rest from (log ++ take used bytes) now (page_is_on timeline rest from log passing passed on some) in
      subst (λ (i : Ident). IsRestBegun i timeline rest from (log ++ take (used + n) bytes)) passing.same
      (subst (IsRestBegun (rest_identity r) timeline rest from) (next_part log bytes used n) is);
  passed = λ timeline rest from log passed on more.
      let now = passing.passed timeline rest from log passed on (inl some) in
      let front = log ++ take used bytes in
      let part = take n (drop used bytes) in
      let joined = next_part log bytes used n in
      let counted = length-append front part in
      let taken = length-take n (drop used bytes) in
      let aligned : (from + length (front ++ part)) % 8192 ≡ 0 = elim more [
        | inl less ↦ elim whole [
          | inl full ↦ omega (arith, now.past, now.on_page, length-drop used bytes)
          | inr all ↦ absurd (omega arith)
        ]
        | inr end ↦ omega (arith, end, ap length joined)
      ] in
      subst (HasPassed new timeline rest from) joined (goes timeline rest from front now (page_is_on timeline rest from log passing passed
      on
      some) aligned);
}

-- what holds of a part holds of all, if more bytes keep it
pub of_all : (P : List ℕ → Type 0) → ((log more : List ℕ) → P log → P (log ++ more)) → (log bytes : List ℕ) (used n : ℕ)
    → P ((log ++ take used bytes) ++ take n (drop used bytes)) → P (log ++ bytes)
of_all P keeps log bytes used n p =
    let k = used + n in
    let joined : (log ++ take k bytes) ++ drop k bytes ≡ log ++ bytes =
    append_assoc log (take k bytes) (drop k bytes) ∙ ap (λ (t : List ℕ). log ++ t) (take-append-drop k bytes) in
    subst P joined (keeps (log ++ take k bytes) (drop k bytes) (subst P (next_part log bytes used n) p))
