-- Of records after a record that is not known there is one end and one fault, and the start of the last is one where a
-- record ends.
use Rattle.std.proofs.Common.{◌≡◌, ◌≢◌, ℕ, ◌%◌, ◌<◌, ◌⊎◌, List, take, sym, ap, ◌∙◌, subst, inl, inr, arith}
use Rattle.std.proofs.lemmas.Bool.{cases_eq, cases_lt, cases_order}
use Rattle.std.proofs.lemmas.List.{length-take-le, take-take}
use Rattle.repl_lsn.specs.Segment.{IsSegSize}
use Rattle.repl_page.specs.declared.ident.Ident.{Ident}
use Rattle.repl_record.specs.declared.answer.WalkReason.{WalkReason}
use Rattle.repl_record.specs.declared.answer.WalkReason.TheVariants as why
use Rattle.repl_record.specs.declared.answer.WalkStep.TheVariants as step
use Rattle.repl_record.specs.Judging.{IsFaultAt, IsFirstFault, place_of}
use Rattle.repl_record.specs.Log.{IsPrefixOfRecords, IsWholeEnd, RecordEnd}
use Rattle.repl_record.specs.Record.{IsImage}
use Rattle.repl_record.proofs.ImageRight.{image_right}
use Rattle.repl_record.proofs.ImageRightFronts.{image_over}
use Rattle.repl_record.proofs.LogAnswers.{same_answer}
use Rattle.repl_record.proofs.LogChains.{first_record, same_last}
use Rattle.repl_record.proofs.LogEnds.{from_le}
use Rattle.repl_walk.specs.Faults.{IsFaultPast}
use Rattle.repl_walk.proofs.PastAny.{fault_past, first_fault, one_prev, same_length, told_prev, wrong_no_prefix}
use Rattle.repl_walk.proofs.Faults.{fault_greatest, fault_refutes, same_fault}
use Rattle.repl_check.specs.Fits.{IsBefore, IsOrigin}

-- ---- where the record before starts

-- two records before are one, or the floor is not the origin
before_origin : (ident : Ident) (floor prev other : ℕ) → IsBefore ident floor prev → IsBefore ident floor other
    → (other ≡ prev) ⊎ ¬ IsOrigin ident floor
before_origin ident floor prev other a b =
    elim (cases_eq floor ident.size) [
      | inl origin ↦ inl (b origin ∙ sym (a origin))
      | inr above ↦ inr above
    ]

-- where records end after both, they are one
pub one_before : (ident : Ident) (timeline : ℕ → ℕ) (from prev other end last later start : ℕ) (log : List ℕ) → IsSegSize ident.size
    → from < end → RecordEnd ident timeline from prev log end last → from < later → RecordEnd ident timeline from other log later start
    → other ≡ prev
one_before ident timeline from prev other end last later start log size_is some ends more others =
    elim (first_record ident timeline from prev log end last ends) [
      | inl none ↦ absurd (omega (arith, none.0))
      | inr first ↦ elim (first_record ident timeline from other log later start others) [
        | inl none ↦ absurd (omega (arith, none.0))
        | inr second ↦
            let same = same_length ident timeline from prev other first.n second.n first.item second.item log size_is first.within
            second.within first.image second.image in
            told_prev ident timeline from prev other first.item second.item (take first.n log) size_is first.image
            (subst (λ (k : ℕ). IsImage ident timeline from other second.item (take k log)) (sym same) second.image)
      ]
    ]

-- ---- one end

same_ends : (ident : Ident) (timeline : ℕ → ℕ) (from prev : ℕ) (log : List ℕ) (end last later start : ℕ) → IsSegSize ident.size → from % 8 ≡ 0
    → IsWholeEnd ident timeline from prev log end last → IsWholeEnd ident timeline from prev log later start → (end ≡ later) × (last ≡ start)
same_ends ident timeline from prev log end last later start size_is eight a b =
    let same : end ≡ later = omega (arith, a.greatest later start b.is_end, b.greatest end last a.is_end) in
    let ends = subst (λ (e : ℕ). RecordEnd ident timeline from prev log e last) same a.is_end in
    (same, same_last ident timeline from prev log later last start size_is eight ends b.is_end)

-- what is said of ends after one record is so after another
module _ (ident : Ident) (timeline : ℕ → ℕ) (floor from : ℕ) (log : List ℕ) (size_is : IsSegSize ident.size) (eight : from % 8 ≡ 0) where
  -- both are prefixes of records
  pub one_records_end : (prev other end last later start : ℕ) → IsBefore ident floor prev → IsBefore ident floor other
      → IsPrefixOfRecords ident timeline from prev log → IsWholeEnd ident timeline from prev log end last
      → IsPrefixOfRecords ident timeline from other log → IsWholeEnd ident timeline from other log later start
      → (end ≡ later) × ((from < end) ⊎ IsOrigin ident floor → last ≡ start)
  one_records_end prev other end last later start before another records whole others greatest =
      let alike : other ≡ prev → (end ≡ later) × ((from < end) ⊎ IsOrigin ident floor → last ≡ start) = λ same.
      let ends = same_ends ident timeline from prev log end last later start size_is eight whole
      (subst (λ (p : ℕ). IsWholeEnd ident timeline from p log later start) same greatest) in
      (ends.0, λ judged. ends.1) in
      elim (before_origin ident floor prev other before another) [
        | inl same ↦ alike same
        | inr above ↦ elim (cases_lt from end) [
          | inl some ↦ alike (one_prev ident timeline from prev other end last log size_is some whole.is_end others)
          | inr none ↦ elim (cases_lt from later) [
            | inl some ↦ alike (sym (one_prev ident timeline from other prev later start log size_is some greatest.is_end records))
            | inr zero ↦ (
              omega (
                arith,
                from_le ident timeline from prev log end last whole.is_end,
                from_le ident timeline from other log later start greatest.is_end,
              ),
              λ judged. elim judged [
                | inl some ↦ absurd (omega arith)
                | inr origin ↦ absurd (above origin)
              ],
            )
          ]
        ]
      ]

  -- ---- no fault

  pub records_not_bad : (prev other later start at : ℕ) (reason : WalkReason) → IsBefore ident floor prev → IsBefore ident floor other
      → IsPrefixOfRecords ident timeline from prev log → IsFaultPast ident timeline from other log later start at reason
      → (¬ IsOrigin ident floor → later ≡ from → (found expected : ℕ) → reason ≢ why.Prev found expected) → ⊥
  records_not_bad prev other later start at reason before another records fault unlike =
      let alike : prev ≡ other → ⊥ = λ same. fault_refutes ident timeline from other log later start at reason size_is eight fault
      (subst (λ (p : ℕ). IsPrefixOfRecords ident timeline from p log) same records) in
      elim (before_origin ident floor prev other before another) [
        | inl same ↦ alike (sym same)
        | inr above ↦ elim (cases_lt from later) [
          | inl some ↦ alike (one_prev ident timeline from other prev later start log size_is some fault.records records)
          | inr none ↦
              let begins : later ≡ from = omega (arith, from_le ident timeline from other log later start fault.records) in
              let first = first_fault size_is eight fault begins in
              wrong_no_prefix ident timeline from prev first.n log reason size_is eight first.within (λ m below. (first.first m below).0)
              (fault_past ident timeline from other prev (take first.n log) reason (unlike above begins) first.fault) records
        ]
      ]

  -- ---- one fault

  -- where a record ends after one, no fault of the first record stands after the other
  end_not_bad : (prev other end last at : ℕ) (reason : WalkReason) → from < end → RecordEnd ident timeline from prev log end last
      → ((found expected : ℕ) → reason ≢ why.Prev found expected) → IsFirstFault ident timeline from other log at reason → ⊥
  end_not_bad prev other end last at reason some ends unlike fault =
      elim (first_record ident timeline from prev log end last ends) [
        | inl none ↦ absurd (omega (arith, none.0))
        | inr first ↦ elim (cases_lt first.n fault.n) [
          | inl before ↦ (fault.first first.n before).0 (image_over ident timeline from prev first.item (take first.n log) size_is first.image)
          | inr past ↦
              let counted = length-take-le first.n log first.within in
              image_right ident timeline from prev fault.n first.item (take first.n log) size_is eight first.image (omega arith) reason
              (subst (λ (t : List ℕ). IsFaultAt ident timeline from prev t reason) (sym (take-take fault.n first.n log past))
              (fault_past ident timeline from other prev (take fault.n log) reason unlike fault.fault))
        ]
      ]

  -- two first faults that tell nothing of the record before are one
  one_first_fault : (prev other at place : ℕ) (reason cause : WalkReason) → ((found expected : ℕ) → reason ≢ why.Prev found expected)
      → ((found expected : ℕ) → cause ≢ why.Prev found expected) → IsFirstFault ident timeline from prev log at reason
      → IsFirstFault ident timeline from other log place cause → (at ≡ place) × (reason ≡ cause)
  one_first_fault prev other at place reason cause unlike differs a b =
      elim (cases_order a.n b.n) [
        | inl same ↦
            let moved = fault_past ident timeline from other prev (take b.n log) cause differs b.fault in
            same_answer ident timeline from prev log (step.Bad at reason) (step.Bad place cause) size_is eight a (record {
              n = a.n;
              within = a.within;
              first = a.first;
              fault = subst (λ (k : ℕ). IsFaultAt ident timeline from prev (take k log) cause) (sym same) moved;
              place = b.place ∙ ap (λ (k : ℕ). place_of ident.size from (take k log) cause) (sym same);
            })
        | inr (inl below) ↦ absurd ((b.first a.n below).1 reason (fault_past ident timeline from prev other (take a.n log) reason unlike a.fault))
        | inr (inr above) ↦ absurd ((a.first b.n above).1 cause (fault_past ident timeline from other prev (take b.n log) cause differs b.fault))
      ]

  -- both have a fault
  pub one_bad : (prev other end last at later start place : ℕ) (reason cause : WalkReason) → IsBefore ident floor prev
      → IsBefore ident floor other → IsFaultPast ident timeline from prev log end last at reason
      → (¬ IsOrigin ident floor → end ≡ from → (found expected : ℕ) → reason ≢ why.Prev found expected)
      → IsFaultPast ident timeline from other log later start place cause
      → (¬ IsOrigin ident floor → later ≡ from → (found expected : ℕ) → cause ≢ why.Prev found expected)
      → (end ≡ later) × ((from < end) ⊎ IsOrigin ident floor → last ≡ start) × (at ≡ place) × (reason ≡ cause)
  one_bad prev other end last at later start place reason cause before another fault unlike second differs =
      let alike : other ≡ prev → (end ≡ later) × ((from < end) ⊎ IsOrigin ident floor → last ≡ start) × (at ≡ place) × (reason ≡ cause) = λ same.
      let moved = subst (λ (p : ℕ). IsFaultPast ident timeline from p log later start place cause) same second in
      let one = same_fault ident timeline from prev log at place reason cause size_is eight (record { end = end; last = last; past = fault })
      (record { end = later; last = start; past = moved }) in
      let ends = same_ends ident timeline from prev log end last later start size_is eight
      (fault_greatest ident timeline from prev log end last at reason size_is eight fault)
      (fault_greatest ident timeline from prev log later start place cause size_is eight moved) in
      (ends.0, (λ judged. ends.1), one.0, one.1) in
      elim (before_origin ident floor prev other before another) [
        | inl same ↦ alike same
        | inr above ↦ elim (cases_lt from end) [
          | inl some ↦ elim (cases_lt from later) [
            | inl more ↦ alike (one_before ident timeline from prev other end last later start log size_is some fault.records more second.records)
            | inr none ↦
                let begins : later ≡ from = omega (arith, from_le ident timeline from other log later start second.records) in
                absurd (end_not_bad prev other end last place cause some fault.records (differs above begins)
                (first_fault size_is eight second begins))
          ]
          | inr none ↦
              let begins : end ≡ from = omega (arith, from_le ident timeline from prev log end last fault.records) in
              elim (cases_lt from later) [
                | inl more ↦ absurd (end_not_bad other prev later start at reason more second.records (unlike above begins)
                    (first_fault size_is eight fault begins))
                | inr zero ↦
                    let begun : later ≡ from = omega (arith, from_le ident timeline from other log later start second.records) in
                    let one = one_first_fault prev other at place reason cause (unlike above begins) (differs above begun)
                    (first_fault size_is eight fault begins) (first_fault size_is eight second begun) in (
                      begins ∙ sym begun,
                      (λ judged. elim judged [
                        | inl some ↦ absurd (omega arith)
                        | inr origin ↦ absurd (above origin)
                      ]),
                      one.0,
                      one.1,
                    )
              ]
        ]
      ]
