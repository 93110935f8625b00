-- Between a record's last byte and the end of its image stand fewer than eight bytes, all of the log's and none of a
-- header, and all zero where nothing is wrong.
use Rattle.std.proofs.Common.{◌≡◌, ◌≢◌, ℕ, ◌+◌, ◌-◌, ◌%◌, ◌<◌, ◌≤◌, false, List, [], ◌∷◌, ◌++◌, length, get_or, take, drop, replicate, suc, refl, sym, ap, ◌∙◌, subst, inl, inr, arith}
use Rattle.std.proofs.lemmas.Bool.{cases_lt, cases_eq}
use Rattle.std.proofs.lemmas.List.{length-take-le, length-drop, take-append-drop, get_or-drop, get_or-take}
use Rattle.repl_lsn.specs.Segment.{IsSegSize}
use Rattle.repl_page.specs.declared.ident.Ident.{Ident}
use Rattle.repl_page.specs.Page.{in_header}
use Rattle.repl_record.specs.declared.answer.WalkReason.TheVariants as why
use Rattle.repl_record.specs.Record.{content}
use Rattle.repl_record.specs.Judging.{IsLength, HasLength, IsOver, IsRight, length_field}
use Rattle.repl_record.proofs.Fields.{same_number, field-take}
use Rattle.repl_record.proofs.Pages.{same_eight}
use Rattle.repl_record.proofs.Content.{take-content, length-content-take, length-content-next}

-- ---- fronts of the log

-- each front with the field has the same length in it
pub length_field-take : (size from n : ℕ) (log : List ℕ) → 4 ≤ length (content size from (take n log))
    → length_field (content size from (take n log)) ≡ length_field (content size from log)
length_field-take size from n log enough =
    ap length_field (sym (take-content size from n log)) ∙ field-take 0 4 (length (content size from (take n log))) (content size from log)
    enough

-- a front with all bytes of a record that ends at a multiple of 8 is over
pub over_front : (size from n : ℕ) (log : List ℕ) → n ≤ length log → HasLength (content size from log)
    → length_field (content size from log) ≤ length (content size from (take n log))
    → in_header size (from + n - 1) ≡ false → (from + n) % 8 ≡ 0 → IsOver size from (take n log)
over_front size from n log within has all last rounded =
    let same = length_field-take size from n log (omega (arith, has.0)) in
    let long = length-take-le n log within in
    record {
      right = subst IsLength (sym same) has;
      all = omega arith;
      last = ap (λ (k : ℕ). in_header size (from + k - 1)) long ∙ last;
      rounded = ap (λ (k : ℕ). (from + k) % 8) long ∙ rounded;
    }

-- ---- the gap

-- after the first m bytes of the log
pub record IsGap (size from m : ℕ) (log : List ℕ) : Type 0 where
  pub few : length log - m < 8
  pub outside : (i : ℕ) → m ≤ i → i < length log → in_header size (from + i) ≡ false

-- where none but the whole log is over, the end is the next multiple of 8
gap_to_end : (size from m up : ℕ) (log : List ℕ) → IsSegSize size → 0 < m → in_header size (from + m - 1) ≡ false
    → (from + m - 1) % 8 + up < 8 → length log ≤ m + up → IsGap size from m log
gap_to_end size from m up log is some last within ends = record {
  few = omega arith;
  outside = λ i past inside.
      let place : from + i ≡ from + m - 1 + (i - (m - 1)) = omega arith in
      ap (in_header size) place ∙ same_eight size (from + m - 1) (i - (m - 1)) is last (omega arith);
}

-- how far it is to the next multiple of 8
abbrev up_to_eight : ℕ → ℕ
up_to_eight end = 8 - end % 8

gap_past : (size from m : ℕ) (log : List ℕ) → IsSegSize size → HasLength (content size from log)
    → ((n : ℕ) → n < length log → ¬ IsOver size from (take n log))
    → m < length log → length_field (content size from log) ≤ length (content size from (take m log)) → 0 < m
    → in_header size (from + m - 1) ≡ false → (from + m) % 8 ≢ 0 → IsGap size from m log
gap_past size from m log is has going inside all some last uneven =
    let up = up_to_eight (from + m) in
    let step : (from + m - 1) % 8 + up < 8 = omega arith in
    elim (cases_lt (m + up) (length log)) [
      | inl early ↦
          let place : from + (m + up) - 1 ≡ from + m - 1 + up = omega arith in
          let outside = ap (in_header size) place ∙ same_eight size (from + m - 1) up is last step in
          absurd (going (m + up) early (over_front size from (m + up) log (omega arith) has (omega (
            arith,
            length-content-take size from m (m + up) log (omega arith),
          )) outside (omega arith)))
      | inr ends ↦ gap_to_end size from m up log is some last step ends
    ]

pub gap_is : (size from m : ℕ) (log : List ℕ) → IsSegSize size → HasLength (content size from log)
    → ((n : ℕ) → n < length log → ¬ IsOver size from (take n log))
    → m ≤ length log → length_field (content size from log) ≤ length (content size from (take m log)) → 0 < m
    → in_header size (from + m - 1) ≡ false → IsGap size from m log
gap_is size from m log is has going within all some last =
    elim (cases_lt m (length log)) [
      | inl inside ↦ elim (cases_eq ((from + m) % 8) 0) [
        | inl even ↦ absurd (going m inside (over_front size from m log within has all last even))
        | inr uneven ↦ gap_past size from m log is has going inside all some last uneven
      ]
      | inr ends ↦ record { few = omega arith; outside = λ i past inside. absurd (omega arith) }
    ]

-- ---- its bytes

pub zero_in_gap : (ident : Ident) (timeline : ℕ → ℕ) (from prev m : ℕ) (log : List ℕ) → HasLength (content ident.size from log)
    → ((n : ℕ) → n ≤ length log → IsRight ident timeline from prev (take n log))
    → length_field (content ident.size from log) ≤ length (content ident.size from (take m log)) → IsGap ident.size from m log
    → (i : ℕ) → m ≤ i → i < length log → get_or log i 0 ≡ 0
zero_in_gap ident timeline from prev m log has right all gap i past inside =
    let n = i + 1 in
    let outside = gap.outside i past inside in
    let long = length-take-le n log (omega arith) in
    let more = length-content-next ident.size from i log inside outside in
    let enough = length-content-take ident.size from m i log past in
    let same = length_field-take ident.size from n log (omega (arith, has.0)) in
    let place : from + length (take n log) - 1 ≡ from + i = omega arith in
    let back : length (take n log) - 1 ≡ i = omega arith in
    let byte : get_or (take n log) (length (take n log) - 1) 0 ≡ get_or log i 0 = ap (λ (k : ℕ). get_or (take n log) k 0) back
    ∙ get_or-take n log i 0 (omega arith) in
    same_number (get_or log i 0) 0 (λ differ.
    right n (omega arith) why.Padding (
      ap (in_header ident.size) place ∙ outside,
      subst IsLength (sym same) has,
      omega arith,
      λ none. differ (sym byte ∙ none),
    ))

pub zeros_are : (bytes : List ℕ) → ((i : ℕ) → i < length bytes → get_or bytes i 0 ≡ 0) → bytes ≡ replicate (length bytes) 0
zeros_are [] zero_at = refl
zeros_are (byte ∷ bytes) zero_at =
    ap (λ (b : ℕ). b ∷ bytes) (zero_at 0 (omega arith)) ∙ ap (λ (t : List ℕ). 0 ∷ t)
    (zeros_are bytes (λ i inside. zero_at (suc i) (omega arith)))

pub zeros_from : (m : ℕ) (log : List ℕ) → ((i : ℕ) → m ≤ i → i < length log → get_or log i 0 ≡ 0) → log ≡ take m log
    ++ replicate (length log - m) 0
zeros_from m log zeros =
    let long = length-drop m log in
    let same = zeros_are (drop m log) (λ i inside. get_or-drop m log i 0 ∙ zeros (m + i) (omega arith) (omega (arith, long))) in
    sym (take-append-drop m log) ∙ ap (λ (t : List ℕ). take m log ++ t) (same ∙ ap (λ (n : ℕ). replicate n 0) long)
