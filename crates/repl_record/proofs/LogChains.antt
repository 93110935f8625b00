-- Record ends stand in one line: a chain of records is also read from its first image on.
use Rattle.std.proofs.Common.{◌≡◌, ℕ, ◌+◌, ◌-◌, ◌%◌, ◌<◌, ◌≤◌, ◌⊎◌, List, length, take, drop, refl, sym, ap, ◌∙◌, subst, inl, inr, arith}
use Rattle.std.proofs.lemmas.Bool.{cases_lt}
use Rattle.std.proofs.lemmas.List.{length-take-le, length-drop, drop-drop}
use Rattle.repl_lsn.specs.Segment.{IsSegSize}
use Rattle.repl_page.specs.declared.ident.Ident.{Ident}
use Rattle.repl_record.specs.declared.record.RecordIn.{RecordIn}
use Rattle.repl_record.specs.declared.answer.WalkStep.TheVariants as step
use Rattle.repl_record.specs.Record.{IsImage, start_of}
use Rattle.repl_record.specs.Judging.{IsBeginning}
use Rattle.repl_record.specs.Log.{RecordEnd, origin, next, IsPrefixOfRecords, IsWholeEnd}
use Rattle.repl_record.proofs.LogAnswers.{answered, same_answer, same_end}

-- an image has at least one byte
pub image_some : (ident : Ident) (timeline : ℕ → ℕ) (from prev : ℕ) (item : RecordIn) (log : List ℕ) (n : ℕ) → IsSegSize ident.size
    → from % 8 ≡ 0 → n ≤ length log → IsImage ident timeline from prev item (take n log) → 0 < n
image_some ident timeline from prev item log n size_is eight within image =
    omega (arith, (answered ident timeline from prev item log n size_is eight within image).after)

-- and it ends at a multiple of 8
pub image_eight : (ident : Ident) (timeline : ℕ → ℕ) (from prev : ℕ) (item : RecordIn) (log : List ℕ) (n : ℕ) → n ≤ length log
    → IsImage ident timeline from prev item (take n log) → (from + n) % 8 ≡ 0
image_eight ident timeline from prev item log n within image = ap (λ (k : ℕ). (from + k) % 8) (sym (length-take-le n log within))
    ∙ image.rounded

-- a record ends where the log begins or after it, and at a multiple of 8 if the log begins at one
pub placed : (ident : Ident) (timeline : ℕ → ℕ) (from prev : ℕ) (log : List ℕ) (end last : ℕ) → from % 8 ≡ 0
    → RecordEnd ident timeline from prev log end last → (from ≤ end) × (end % 8 ≡ 0)
placed ident timeline from prev log end last eight origin = (omega arith, eight)
placed ident timeline from prev log _ _ eight (next end last item n before fits image) =
    let below = (placed ident timeline from prev log end last eight before).0 in
    (omega arith, image_eight ident timeline end last item (drop (end - from) log) n (omega (arith, length-drop (end - from) log)) image)

-- the image of the first record of a chain, and the chain from its end on
pub record FirstRecord (ident : Ident) (timeline : ℕ → ℕ) (from prev : ℕ) (log : List ℕ) (end last : ℕ) : Type 0 where
  pub item : RecordIn
  pub n : ℕ
  pub within : n ≤ length log
  pub image : IsImage ident timeline from prev item (take n log)
  pub rest : RecordEnd ident timeline (from + n) (start_of ident.size from) (drop n log) end last

-- a chain of one record
one_record : (ident : Ident) (timeline : ℕ → ℕ) (from prev : ℕ) (log : List ℕ) (end last : ℕ) (item : RecordIn) (n : ℕ) → end ≡ from
    → last ≡ prev
    → (end - from) + n ≤ length log → IsImage ident timeline end last item (take n (drop (end - from) log))
    → FirstRecord ident timeline from prev log (end + n) (start_of ident.size end)
one_record ident timeline from prev log end last item n at past fits image =
    let none : end - from ≡ 0 = omega arith in
    let by_start = subst (λ (k : ℕ). IsImage ident timeline k last item (take n (drop (end - from) log))) at image in
    let by_prev = subst (λ (k : ℕ). IsImage ident timeline from k item (take n (drop (end - from) log))) past by_start in
    record {
      item = item;
      n = n;
      within = omega arith;
      image = subst (λ (k : ℕ). IsImage ident timeline from prev item (take n (drop k log))) none by_prev;
      rest = subst (λ (k : ℕ). RecordEnd ident timeline (from + n) (start_of ident.size from) (drop n log) (k + n) (start_of ident.size k))
          (sym at) origin;
    }

-- a chain with one record more
pub one_more : (ident : Ident) (timeline : ℕ → ℕ) (from prev : ℕ) (log : List ℕ) (end last : ℕ) (item : RecordIn) (n : ℕ)
    → FirstRecord ident timeline from prev log end last
    → (end - from) + n ≤ length log → IsImage ident timeline end last item (take n (drop (end - from) log))
    → FirstRecord ident timeline from prev log (end + n) (start_of ident.size end)
one_more ident timeline from prev log end last item n first fits image =
    let below = (placed ident timeline (from + first.n) (start_of ident.size from) (drop first.n log) end last
    (image_eight ident timeline from prev first.item log first.n first.within first.image) first.rest).0 in
    let place = end - (from + first.n) in
    let way : end - from ≡ first.n + place = omega arith in
    let same : drop (end - from) log ≡ drop place (drop first.n log) = ap (λ (k : ℕ). drop k log) way ∙ sym (drop-drop place first.n log) in
    record {
      item = first.item;
      n = first.n;
      within = first.within;
      image = first.image;
      rest = next end last item n first.rest (omega (arith, length-drop first.n log))
          (subst (λ (t : List ℕ). IsImage ident timeline end last item (take n t)) same image);
    }

-- a chain has no record, or a first
pub first_record : (ident : Ident) (timeline : ℕ → ℕ) (from prev : ℕ) (log : List ℕ) (end last : ℕ)
    → RecordEnd ident timeline from prev log end last
    → ((end ≡ from) × (last ≡ prev)) ⊎ FirstRecord ident timeline from prev log end last
first_record ident timeline from prev log end last origin = inl (refl, refl)
first_record ident timeline from prev log _ _ (next end last item n before fits image) =
    elim (first_record ident timeline from prev log end last before) [
      | inl none ↦ inr (one_record ident timeline from prev log end last item n none.0 none.1 fits image)
      | inr first ↦ inr (one_more ident timeline from prev log end last item n first fits image)
    ]

-- where no byte is passed, the last record is the one before the log
none_passed : (ident : Ident) (timeline : ℕ → ℕ) (from prev : ℕ) (log : List ℕ) (last : ℕ) → IsSegSize ident.size → from % 8 ≡ 0
    → RecordEnd ident timeline from prev log from last → last ≡ prev
none_passed ident timeline from prev log last size_is eight is =
    elim (first_record ident timeline from prev log from last is) [
      | inl none ↦ none.1
      | inr first ↦
          let some = image_some ident timeline from prev first.item log first.n size_is eight first.within first.image in
          let at = image_eight ident timeline from prev first.item log first.n first.within first.image in
          absurd (omega (
            arith,
            (placed ident timeline (from + first.n) (start_of ident.size from) (drop first.n log) from last at
                first.rest).0,
          ))
    ]

-- a chain that goes on as far as the end of an image at its front goes on from there
past_image : (ident : Ident) (timeline : ℕ → ℕ) (from prev : ℕ) (log : List ℕ) (item : RecordIn) (n later start : ℕ)
    → IsSegSize ident.size → from % 8 ≡ 0 → n ≤ length log → IsImage ident timeline from prev item (take n log)
    → RecordEnd ident timeline from prev log later start → from + n ≤ later
    → RecordEnd ident timeline (from + n) (start_of ident.size from) (drop n log) later start
past_image ident timeline from prev log item n later start size_is eight within image is reached =
    elim (first_record ident timeline from prev log later start is) [
      | inl none ↦ let some = image_some ident timeline from prev item log n size_is eight within image in absurd (omega (arith, none.0))
      | inr first ↦
          let same = same_end ident timeline from prev first.item item log first.n n size_is eight first.within within first.image image in
          subst (λ (k : ℕ). RecordEnd ident timeline (from + k) (start_of ident.size from) (drop k log) later start) same first.rest
    ]

pub in_line : (ident : Ident) (timeline : ℕ → ℕ) (from prev : ℕ) (log : List ℕ) (end last later start : ℕ) → IsSegSize ident.size
    → from % 8 ≡ 0
    → RecordEnd ident timeline from prev log end last → RecordEnd ident timeline from prev log later start → end ≤ later
    → RecordEnd ident timeline end last (drop (end - from) log) later start
in_line ident timeline from prev log end last later start size_is eight origin second reached =
    let none : 0 ≡ from - from = omega arith in
    subst (λ (k : ℕ). RecordEnd ident timeline from prev (drop k log) later start) none second
in_line ident timeline from prev log _ _ later start size_is eight (next end last item n before fits image) second reached =
    let at = placed ident timeline from prev log end last eight before in
    let rest = in_line ident timeline from prev log end last later start size_is eight before second (omega arith) in
    let past = past_image ident timeline end last (drop (end - from) log) item n later start size_is at.1 (omega (
      arith,
      length-drop (end - from) log,
    )) image rest reached in
    let way : end - from + n ≡ end + n - from = omega (arith, at.0) in
    subst (λ (t : List ℕ). RecordEnd ident timeline (end + n) (start_of ident.size end) t later start) (drop-drop n (end - from) log
    ∙ ap (λ (k : ℕ). drop k log) way) past

pub same_last : (ident : Ident) (timeline : ℕ → ℕ) (from prev : ℕ) (log : List ℕ) (end last start : ℕ) → IsSegSize ident.size → from % 8 ≡ 0
    → RecordEnd ident timeline from prev log end last → RecordEnd ident timeline from prev log end start → last ≡ start
same_last ident timeline from prev log end last start size_is eight first second =
    let at = placed ident timeline from prev log end last eight first in
    let none = in_line ident timeline from prev log end last end start size_is eight first second (omega arith) in
    sym (none_passed ident timeline end last (drop (end - from) log) start size_is at.1 none)

-- where the log is the beginning of a record, no record ends after its front
beginning_has_no_end : (ident : Ident) (timeline : ℕ → ℕ) (from prev : ℕ) (log : List ℕ) (end last : ℕ) → IsSegSize ident.size
    → from % 8 ≡ 0 → IsBeginning ident timeline from prev log → RecordEnd ident timeline from prev log end last → end ≡ from
beginning_has_no_end ident timeline from prev log end last size_is eight beginning is =
    elim (first_record ident timeline from prev log end last is) [
      | inl none ↦ none.0
      | inr first ↦
          let whole = answered ident timeline from prev first.item log first.n size_is eight first.within first.image in
          absurd (same_answer ident timeline from prev log (step.Whole (start_of ident.size from) (from + first.n) 0) step.Short size_is
          eight whole beginning)
    ]

pub greatest_end : (ident : Ident) (timeline : ℕ → ℕ) (from prev : ℕ) (log : List ℕ) → IsSegSize ident.size → from % 8 ≡ 0
    → (records : IsPrefixOfRecords ident timeline from prev log) → IsWholeEnd ident timeline from prev log records.end records.last
greatest_end ident timeline from prev log size_is eight records =
    let end = records.end in
    let last = records.last in
    let at = placed ident timeline from prev log end last eight records.records in
    record {
      is_end = records.records;
      greatest = λ other start is. elim (cases_lt end other) [
        | inl below ↦
            let past = in_line ident timeline from prev log end last other start size_is eight records.records is (omega arith) in
            omega (
              arith,
              beginning_has_no_end ident timeline end last (drop (end - from) log) other start size_is at.1 records.beginning
                  past,
            )
        | inr above ↦ above
      ];
    }
