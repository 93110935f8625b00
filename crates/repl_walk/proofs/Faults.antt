-- A log that has a fault is no prefix of records, and the record end before the fault is the greatest.
use Rattle.std.proofs.Common.{◌≡◌, ℕ, ◌+◌, ◌-◌, ◌%◌, List, ◌++◌, take, drop, sym, ap, ◌∙◌, subst, inl, inr, arith, length-append}
use Rattle.std.proofs.lemmas.Bool.{cases_lt}
use Rattle.std.proofs.lemmas.List.{drop-append-le, take-append-le}
use Rattle.repl_lsn.specs.Segment.{IsSegSize}
use Rattle.repl_page.specs.declared.ident.Ident.{Ident}
use Rattle.repl_record.specs.declared.answer.WalkReason.{WalkReason}
use Rattle.repl_record.specs.declared.answer.WalkStep.TheVariants as step
use Rattle.repl_record.specs.Record.{start_of}
use Rattle.repl_record.specs.Judging.{IsBeginning, IsFaultAt, IsFirstFault, IsOver, IsRight, place_of}
use Rattle.repl_record.specs.Log.{RecordEnd, IsPrefixOfRecords, IsWholeEnd}
use Rattle.repl_record.proofs.LogAnswers.{answered, same_answer}
use Rattle.repl_record.proofs.LogChains.{first_record, greatest_end, in_line, placed, same_last}
use Rattle.repl_record.proofs.LogEnds.{from_le, kept_by_more}
use Rattle.repl_walk.specs.Faults.{HasFault, IsFaultPast}
use Rattle.repl_walk.proofs.Ends.{ends_within}

-- ---- more bytes

first_fault_more : (ident : Ident) (timeline : ℕ → ℕ) (from prev : ℕ) (log more : List ℕ) (at : ℕ) (reason : WalkReason)
    → IsFirstFault ident timeline from prev log at reason → IsFirstFault ident timeline from prev (log ++ more) at reason
first_fault_more ident timeline from prev log more at reason is =
    let front : take is.n (log ++ more) ≡ take is.n log = take-append-le is.n log more is.within in
    record {
      n = is.n;
      within = omega (arith, is.within, length-append log more);
      first = λ m below.
          subst (λ (t : List ℕ). (¬ IsOver ident.size from t) × IsRight ident timeline from prev t)
          (sym (take-append-le m log more (omega (arith, is.within)))) (is.first m below);
      fault = subst (λ (t : List ℕ). IsFaultAt ident timeline from prev t reason) (sym front) is.fault;
      place = is.place ∙ ap (λ (t : List ℕ). place_of ident.size from t reason) (sym front);
    }

pub fault_more : (ident : Ident) (timeline : ℕ → ℕ) (from prev : ℕ) (log more : List ℕ) (end last at : ℕ) (reason : WalkReason)
    → IsFaultPast ident timeline from prev log end last at reason
    → IsFaultPast ident timeline from prev (log ++ more) end last at reason
fault_more ident timeline from prev log more end last at reason is =
    let above = from_le ident timeline from prev log end last is.records in
    let past = ends_within ident timeline from prev log end last is.records in
    record {
      records = kept_by_more ident timeline from prev log more end last is.records;
      fault = subst (λ (t : List ℕ). IsFirstFault ident timeline end last t at reason)
          (sym (drop-append-le (end - from) log more (omega arith)))
          (first_fault_more ident timeline end last (drop (end - from) log) more at reason is.fault);
    }

-- ---- no record ends after a fault

fault_has_no_end : (ident : Ident) (timeline : ℕ → ℕ) (from prev : ℕ) (log : List ℕ) (at end last : ℕ) (reason : WalkReason)
    → IsSegSize ident.size → from % 8 ≡ 0 → IsFirstFault ident timeline from prev log at reason
    → RecordEnd ident timeline from prev log end last → end ≡ from
fault_has_no_end ident timeline from prev log at end last reason size_is eight fault is =
    elim (first_record ident timeline from prev log end last is) [
      | inl none ↦ none.0
      | inr first ↦
          let whole = answered ident timeline from prev first.item log first.n size_is eight first.within first.image in
          absurd (same_answer ident timeline from prev log (step.Whole (start_of ident.size from) (from + first.n) 0)
          (step.Bad at reason) size_is eight whole fault)
    ]

pub fault_greatest : (ident : Ident) (timeline : ℕ → ℕ) (from prev : ℕ) (log : List ℕ) (end last at : ℕ) (reason : WalkReason)
    → IsSegSize ident.size → from % 8 ≡ 0
    → IsFaultPast ident timeline from prev log end last at reason → IsWholeEnd ident timeline from prev log end last
fault_greatest ident timeline from prev log end last at reason size_is eight is =
    let place = placed ident timeline from prev log end last eight is.records in
    record {
      is_end = is.records;
      greatest = λ other start ends. elim (cases_lt end other) [
        | inl below ↦
            let past = in_line ident timeline from prev log end last other start size_is eight is.records ends (omega arith) in
            omega (
              arith,
              fault_has_no_end ident timeline end last (drop (end - from) log) at other start reason size_is place.1 is.fault
                  past,
            )
        | inr above ↦ above
      ];
    }

-- ---- one fault

-- two greatest ends are one, and what stands after the one stands after the other
one_greatest : (ident : Ident) (timeline : ℕ → ℕ) (from prev : ℕ) (log : List ℕ) (end last whole start : ℕ)
    → IsWholeEnd ident timeline from prev log end last → IsWholeEnd ident timeline from prev log whole start → whole ≡ end
one_greatest ident timeline from prev log end last whole start a b =
    omega (arith, a.greatest whole start b.is_end, b.greatest end last a.is_end)

past_one : (ident : Ident) (timeline : ℕ → ℕ) (from prev : ℕ) (log : List ℕ) (end last whole start : ℕ)
    → (Past : ℕ → ℕ → Type 0) → IsSegSize ident.size → from % 8 ≡ 0
    → IsWholeEnd ident timeline from prev log end last → IsWholeEnd ident timeline from prev log whole start → Past whole start
    → Past end last
past_one ident timeline from prev log end last whole start Past size_is eight a b is =
    let same = one_greatest ident timeline from prev log end last whole start a b in
    let ends = subst (λ (e : ℕ). RecordEnd ident timeline from prev log e start) same b.is_end in
    let alike = same_last ident timeline from prev log end start last size_is eight ends a.is_end in
    subst (Past end) alike (subst (λ (e : ℕ). Past e start) same is)

pub fault_refutes : (ident : Ident) (timeline : ℕ → ℕ) (from prev : ℕ) (log : List ℕ) (end last at : ℕ) (reason : WalkReason)
    → IsSegSize ident.size → from % 8 ≡ 0
    → IsFaultPast ident timeline from prev log end last at reason → ¬ IsPrefixOfRecords ident timeline from prev log
fault_refutes ident timeline from prev log end last at reason size_is eight is records =
    let place = placed ident timeline from prev log end last eight is.records in
    let begun = past_one ident timeline from prev log end last records.end records.last (λ e l. IsBeginning ident timeline e l
    (drop (e - from) log)) size_is eight (fault_greatest ident timeline from prev log end last at reason size_is eight is)
    (greatest_end ident timeline from prev log size_is eight records) records.beginning in
    same_answer ident timeline end last (drop (end - from) log) step.Short (step.Bad at reason) size_is place.1 begun is.fault

pub same_fault : (ident : Ident) (timeline : ℕ → ℕ) (from prev : ℕ) (log : List ℕ) (at other : ℕ) (reason another : WalkReason)
    → IsSegSize ident.size → from % 8 ≡ 0
    → HasFault ident timeline from prev log at reason → HasFault ident timeline from prev log other another → (at ≡ other)
    × (reason ≡ another)
same_fault ident timeline from prev log at other reason another size_is eight a b =
    let place = placed ident timeline from prev log a.end a.last eight a.past.records in
    let second = past_one ident timeline from prev log a.end a.last b.end b.last (λ e l. IsFirstFault ident timeline e l (drop (e - from)
    log) other another) size_is eight (fault_greatest ident timeline from prev log a.end a.last at reason size_is eight a.past)
    (fault_greatest ident timeline from prev log b.end b.last other another size_is eight b.past) b.past.fault in
    same_answer ident timeline a.end a.last (drop (a.end - from) log) (step.Bad at reason) (step.Bad other another) size_is place.1
    a.past.fault second
