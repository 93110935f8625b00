-- A log after a record that is not known: one start of that record fits at most, and the first record tells it.
use Rattle.std.proofs.Common.{◌≡◌, ◌≢◌, ℕ, ◌-◌, ◌%◌, ◌<◌, ◌≤◌, List, ◌++◌, length, take, drop, refl, sym, ap, ◌∙◌, subst, inl, inr, arith}
use Rattle.std.proofs.lemmas.Bool.{cases_lt, cases_order}
use Rattle.std.proofs.lemmas.List.{length-take-le, take-append-le, take-take, take_all, take_at}
use Rattle.repl_lsn.specs.Segment.{IsSegSize}
use Rattle.repl_page.specs.Header.{field}
use Rattle.repl_page.specs.declared.ident.Ident.{Ident}
use Rattle.repl_record.specs.declared.answer.WalkReason.{WalkReason}
use Rattle.repl_record.specs.declared.answer.WalkReason.TheVariants as why
use Rattle.repl_record.specs.declared.record.RecordIn.{RecordIn}
use Rattle.repl_record.specs.declared.walker.Walker.{Walker}
use Rattle.repl_record.specs.Record.{IsImage, content}
use Rattle.repl_record.specs.Judging.{IsBeginning, IsFaultAt, IsFirstFault, IsOver}
use Rattle.repl_record.specs.Log.{RecordEnd, origin, IsPrefixOfRecords}
use Rattle.repl_record.specs.Walker.{Stands, identity, last_end, last_start}
use Rattle.repl_record.proofs.Content.{length-content-short}
use Rattle.repl_record.proofs.ImageRight.{image_right}
use Rattle.repl_record.proofs.ImageRightFields.{IsBegun, prev_begun}
use Rattle.repl_record.proofs.ImageRightFronts.{image_begun, image_not_over, image_over}
use Rattle.repl_record.proofs.LogChains.{first_record, same_last}
use Rattle.repl_record.proofs.LogEnds.{from_le, kept_by_more}
use Rattle.repl_walk.specs.Faults.{IsFaultPast}
use Rattle.repl_walk.specs.Walks.{HasRefused, HasWalked}
use Rattle.repl_walk.proofs.Faults.{fault_greatest}

-- ---- faults after another record

-- what has no records is the beginning of one
pub no_records : (ident : Ident) (timeline : ℕ → ℕ) (from prev : ℕ) (log : List ℕ) → (records : IsPrefixOfRecords ident timeline from prev log)
    → (records.end ≡ from) × (records.last ≡ prev) → IsBeginning ident timeline from prev log
no_records ident timeline from prev log records none =
    let zero : records.end - from ≡ 0 = omega (arith, none.0) in
    let Begins : ℕ → ℕ → List ℕ → Type 0 = λ e l t. IsBeginning ident timeline e l t in
    subst (λ (k : ℕ). Begins from prev (drop k log)) zero
    (subst (λ (l : ℕ). Begins from l (drop (records.end - from) log)) none.1
    (subst (λ (e : ℕ). Begins e records.last (drop (records.end - from) log)) none.0 records.beginning))

-- where a byte makes something wrong, and no record is over before, the log is no prefix of records
pub wrong_no_prefix : (ident : Ident) (timeline : ℕ → ℕ) (from prev n : ℕ) (log : List ℕ) (reason : WalkReason) → IsSegSize ident.size
    → from % 8 ≡ 0 → n ≤ length log → ((m : ℕ) → m < n → ¬ IsOver ident.size from (take m log))
    → IsFaultAt ident timeline from prev (take n log) reason → ¬ IsPrefixOfRecords ident timeline from prev log
wrong_no_prefix ident timeline from prev n log reason size_is eight within opened fault records =
    elim (first_record ident timeline from prev log records.end records.last records.records) [
      | inl none ↦ (no_records ident timeline from prev log records none n (omega arith)).1 reason fault
      | inr first ↦ elim (cases_lt first.n n) [
        | inl before ↦ opened first.n before (image_over ident timeline from prev first.item (take first.n log) size_is first.image)
        | inr past ↦
            let counted = length-take-le first.n log first.within in
            image_right ident timeline from prev n first.item (take first.n log) size_is eight first.image (omega arith) reason
            (subst (λ (t : List ℕ). IsFaultAt ident timeline from prev t reason) (sym (take-take n first.n log past)) fault)
      ]
    ]

-- ---- one record before

-- images at one front are equally long, whatever the record before is
pub same_length : (ident : Ident) (timeline : ℕ → ℕ) (from prev other m n : ℕ) (a b : RecordIn) (log : List ℕ) → IsSegSize ident.size
    → m ≤ length log → n ≤ length log → IsImage ident timeline from prev a (take m log) → IsImage ident timeline from other b (take n log)
    → m ≡ n
same_length ident timeline from prev other m n a b log size_is m_in n_in first second =
    let m_is = length-take-le m log m_in in
    let n_is = length-take-le n log n_in in
    elim (cases_order m n) [
      | inl same ↦ same
      | inr (inl below) ↦ absurd (image_not_over ident timeline from other m b (take n log) second (omega arith)
          (subst (IsOver ident.size from) (sym (take-take m n log (omega arith))) (image_over ident timeline from prev a (take m log)
          size_is
          first)))
      | inr (inr above) ↦ absurd (image_not_over ident timeline from prev n a (take m log) first (omega arith)
          (subst (IsOver ident.size from) (sym (take-take n m log (omega arith))) (image_over ident timeline from other b (take n log)
          size_is second)))
    ]

-- and an image tells the record before
pub told_prev : (ident : Ident) (timeline : ℕ → ℕ) (from prev other : ℕ) (a b : RecordIn) (log : List ℕ) → IsSegSize ident.size
    → IsImage ident timeline from prev a log → IsImage ident timeline from other b log → other ≡ prev
told_prev ident timeline from prev other a b log size_is first second =
    let all : take (length log) log ≡ log = take_all (length log) log (omega arith) in
    let bytes = content ident.size from log in
    let over = image_over ident timeline from prev a log size_is first in
    let one = subst (λ (t : List ℕ). IsBegun prev a (content ident.size from t)) all (image_begun ident timeline from prev (length log) a
    log first) in
    let two = subst (λ (t : List ℕ). IsBegun other b (content ident.size from t)) all (image_begun ident timeline from other (length log) b
    log second) in
    sym (prev_begun other b bytes second.follows two (omega (arith, over.right, over.all)))
    ∙ prev_begun prev a bytes first.follows one (omega (arith, over.right, over.all))

-- so after the first record that ends, it is known
pub one_prev : (ident : Ident) (timeline : ℕ → ℕ) (from prev other end last : ℕ) (log : List ℕ) → IsSegSize ident.size → from < end
    → RecordEnd ident timeline from prev log end last → IsPrefixOfRecords ident timeline from other log → other ≡ prev
one_prev ident timeline from prev other end last log size_is some ends records =
    elim (first_record ident timeline from prev log end last ends) [
      | inl none ↦ absurd (omega (arith, none.0))
      | inr first ↦ elim (first_record ident timeline from other log records.end records.last records.records) [
        | inl none ↦ absurd ((no_records ident timeline from other log records none first.n (omega (arith, first.within))).0
            (image_over ident timeline from prev first.item (take first.n log) size_is first.image))
        | inr second ↦
            let same = same_length ident timeline from prev other first.n second.n first.item second.item log size_is first.within
            second.within first.image second.image in
            told_prev ident timeline from prev other first.item second.item (take first.n log) size_is first.image
            (subst (λ (k : ℕ). IsImage ident timeline from other second.item (take k log)) (sym same) second.image)
      ]
    ]

-- ---- a walk that met a fault

-- a fault that does not tell the record before is one after each
pub fault_past : (ident : Ident) (timeline : ℕ → ℕ) (from prev other : ℕ) (log : List ℕ) (reason : WalkReason)
    → ((found expected : ℕ) → reason ≢ why.Prev found expected) → IsFaultAt ident timeline from prev log reason
    → IsFaultAt ident timeline from other log reason
fault_past ident timeline from prev other log (why.Page fault) unlike is = is
fault_past ident timeline from prev other log (why.Length found) unlike is = is
fault_past ident timeline from prev other log (why.Prev found expected) unlike is = absurd (unlike found expected refl)
fault_past ident timeline from prev other log why.Reserved unlike is = is
fault_past ident timeline from prev other log (why.Checksum found computed) unlike is = is
fault_past ident timeline from prev other log why.Padding unlike is = is

-- the fault of the first record
pub first_fault : {ident : Ident} {timeline : ℕ → ℕ} {from prev : ℕ} {log : List ℕ} {end last at : ℕ} {reason : WalkReason}
    → IsSegSize ident.size
    → from % 8 ≡ 0 → IsFaultPast ident timeline from prev log end last at reason → end ≡ from
    → IsFirstFault ident timeline from prev log at reason
first_fault {ident = ident} {timeline = timeline} {from = from} {prev = prev} {log = log} {end = end} {last = last} {at = at} {reason =
    reason}
    size_is eight is same =
    let ends = subst (λ (e : ℕ). RecordEnd ident timeline from prev log e last) same is.records in
    let begun : last ≡ prev = same_last ident timeline from prev log from last prev size_is eight ends origin in
    let zero : end - from ≡ 0 = omega arith in
    let Wrong : ℕ → ℕ → ℕ → Type 0 = λ e l k. IsFirstFault ident timeline e l (drop k log) at reason in
    subst (Wrong from prev) zero (subst (λ (l : ℕ). Wrong from l (end - from)) begun (subst (λ (e : ℕ). Wrong e last (end - from)) same
    is.fault))

-- no start of the record before fits where the first record has another fault, or a record was whole
pub refused_past_any : (w : Walker) (timeline : ℕ → ℕ) (from prev other at : ℕ) (reason : WalkReason) (log : List ℕ)
    → IsSegSize (identity w).size → HasRefused w timeline from prev log at reason
    → ((found expected : ℕ) → last_end w ≡ from → reason ≢ why.Prev found expected)
    → ¬ IsPrefixOfRecords (identity w) timeline from prev log → ¬ IsPrefixOfRecords (identity w) timeline from other log
refused_past_any w timeline from prev other at reason log size_is is unlike none records =
    let ident = identity w in
    let above = from_le ident timeline from prev log (last_end w) (last_start w) is.past.records in
    elim (cases_lt from (last_end w)) [
      | inl some ↦
          let same = one_prev ident timeline from prev other (last_end w) (last_start w) log size_is some is.past.records records in
          none (subst (λ (p : ℕ). IsPrefixOfRecords ident timeline from p log) same records)
      | inr zero ↦
          let same : last_end w ≡ from = omega arith in
          let fault = first_fault size_is is.aligned is.past same in
          wrong_no_prefix ident timeline from other fault.n log reason size_is is.aligned fault.within (λ m below. (fault.first m below).0)
          (fault_past ident timeline from prev other (take fault.n log) reason (λ found expected. unlike found expected same) fault.fault)
          records
    ]

-- ---- a walk that is begun anew

-- where the first record tells another, only that one fits
pub other_refused : (w : Walker) (timeline : ℕ → ℕ) (from prev other at found expected : ℕ) (log : List ℕ) → IsSegSize (identity w).size
    → HasRefused w timeline from prev log at (why.Prev found expected) → last_end w ≡ from → other ≢ found
    → ¬ IsPrefixOfRecords (identity w) timeline from other log
other_refused w timeline from prev other at found expected log size_is is same differs =
    let fault = first_fault size_is is.aligned is.past same in
    let wrong = fault.fault in
    wrong_no_prefix (identity w) timeline from other fault.n log (why.Prev found other) size_is is.aligned fault.within (λ m below.
    (fault.first m below).0) (wrong.0, wrong.1, wrong.2, refl, λ told. differs (sym told))

-- and the walker from before the piece has not judged it
pub begun_anew : (before w : Walker) (timeline : ℕ → ℕ) (from prev at found expected : ℕ) (log bytes : List ℕ) → (new : Walker)
    → IsSegSize (identity w).size → identity w ≡ identity before → HasWalked before timeline from prev log
    → HasRefused w timeline from prev (log ++ bytes) at (why.Prev found expected) → last_end w ≡ from
    → ((timeline : ℕ → ℕ) (from other : ℕ) (log : List ℕ) → Stands before timeline from other log
    → length (content (identity before).size from log) < 16 → Stands new timeline from found log) → identity new ≡ identity before
    → HasWalked new timeline from found log
begun_anew before w timeline from prev at found expected log bytes new size_is ident_is is refused same past new_is =
    let ident = identity before in
    let size_before = subst (λ (i : Ident). IsSegSize i.size) ident_is size_is in
    let above = from_le ident timeline from prev log (last_end before) (last_start before) is.records in
    let greatest = (fault_greatest (identity w) timeline from prev (log ++ bytes) (last_end w) (last_start w) at (why.Prev found expected)
    size_is refused.aligned refused.past).greatest in
    let kept = kept_by_more ident timeline from prev log bytes (last_end before) (last_start before) is.records in
    let below = greatest (last_end before) (last_start before) (subst (λ (i : Ident). RecordEnd i timeline from prev (log
    ++ bytes) (last_end
    before) (last_start before)) (sym ident_is) kept) in
    let end : last_end before ≡ from = omega (arith, below) in
    let ends = subst (λ (e : ℕ). RecordEnd ident timeline from prev log e (last_start before)) end is.records in
    let last : last_start before ≡ prev = same_last ident timeline from prev log from (last_start before) prev size_before is.aligned ends
    origin in
    let zero : last_end before - from ≡ 0 = omega (arith, end) in
    let Stood : ℕ → ℕ → ℕ → Type 0 = λ e l k. Stands before timeline e l (drop k log) in
    let stands : Stands before timeline from prev log = subst (Stood from prev) zero (subst (λ (l : ℕ). Stood from l (last_end before
    - from)) last (subst (λ (e : ℕ). Stood e (last_start before) (last_end before - from)) end is.stands)) in
    let fault = first_fault size_is refused.aligned refused.past same in
    let front = take fault.n (log ++ bytes) in
    let inside : length log < fault.n = elim (cases_lt (length log) fault.n) [
      | inl less ↦ less
      | inr more ↦
          let part : take fault.n (log ++ bytes) ≡ take fault.n log = take-append-le fault.n log bytes more in
          absurd ((stands.beginning fault.n (omega arith)).1 (why.Prev found expected)
          (subst (λ (t : List ℕ). IsFaultAt ident timeline from prev t (why.Prev found expected)) part
          (subst (λ (i : Ident). IsFaultAt i timeline from prev front (why.Prev found expected)) ident_is fault.fault)))
    ] in
    let counted = length-take-le fault.n (log ++ bytes) fault.within in
    let log_is : take (length log) front ≡ log = take-take (length log) fault.n (log ++ bytes) (omega arith)
    ∙ take_at log bytes (length log)
    refl in
    let short = length-content-short (identity w).size from (length log) front (omega arith) fault.fault.0.last in
    let few : length (content ident.size from log) < 16 = omega (
      arith,
      ap (λ (t : List ℕ). length (content ident.size from t)) log_is,
      ap (λ (i : Ident). length (content i.size from (take (length log) front))) ident_is,
      short,
      fault.fault.0.count_is,
    ) in
    let now = past timeline from prev log stands few in
    let at_end : from ≡ last_end new = sym now.keeps.begins in
    let at_start : found ≡ last_start new = sym now.keeps.follows in
    let Ends : ℕ → ℕ → Type 0 = λ e l. RecordEnd (identity new) timeline from found log e l in
    let none : 0 ≡ last_end new - from = omega (arith, at_end) in
    record {
      aligned = is.aligned;
      records = subst (λ (l : ℕ). Ends (last_end new) l) at_start (subst (λ (e : ℕ). Ends e found) at_end origin);
      stands = subst (λ (k : ℕ). Stands new timeline (last_end new) (last_start new) (drop k log)) none
          (subst (λ (l : ℕ). Stands new timeline (last_end new) l log) at_start (subst (λ (e : ℕ). Stands new timeline e found log) at_end
          now));
    }

-- the walker that is begun anew does not find the first record wrong in where the record before starts
pub told_anew : (w new : Walker) (timeline : ℕ → ℕ) (from prev at other found expected seen wanted : ℕ) (log : List ℕ)
    → IsSegSize (identity w).size → identity new ≡ identity w → HasRefused w timeline from prev log at (why.Prev found expected)
    → last_end w ≡ from → HasRefused new timeline from found log other (why.Prev seen wanted) → last_end new ≡ from → ⊥
told_anew w new timeline from prev at other found expected seen wanted log size_is same first begins second begun =
    let size = (identity w).size in
    let new_size = subst (λ (i : Ident). IsSegSize i.size) (sym same) size_is in
    let a = first_fault size_is first.aligned first.past begins in
    let b = first_fault new_size second.aligned second.past begun in
    let wrong = subst (λ (i : Ident). IsFaultAt i timeline from found (take b.n log) (why.Prev seen wanted)) same b.fault in
    let a_is = length-take-le a.n log a.within in
    let b_is = length-take-le b.n log b.within in
    let one : a.n ≡ b.n = elim (cases_order a.n b.n) [
      | inl alike ↦ alike
      | inr (inl below) ↦ absurd (omega (
        arith,
        a.fault.0.count_is,
        wrong.0.count_is,
        ap (λ (t : List ℕ). length (content size from t)) (take-take a.n b.n log (omega arith)),
        length-content-short size from a.n (take b.n log) (omega arith) wrong.0.last,
      ))
      | inr (inr above) ↦ absurd (omega (
        arith,
        a.fault.0.count_is,
        wrong.0.count_is,
        ap (λ (t : List ℕ). length (content size from t)) (take-take b.n a.n log (omega arith)),
        length-content-short size from b.n (take a.n log) (omega arith) a.fault.0.last,
      ))
    ] in
    let alike : found ≡ seen = a.fault.2 ∙ ap (λ (n : ℕ). field 8 8 (content size from (take n log))) one ∙ sym wrong.2 in
    wrong.4 (sym alike ∙ sym wrong.3)
