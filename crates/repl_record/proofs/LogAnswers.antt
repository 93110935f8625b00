-- The log from a record's image on has one answer, and an image is answered by its end.
use Rattle.std.proofs.Common.{◌≡◌, ℕ, ◌+◌, ◌-◌, ◌%◌, ◌≤◌, List, length, take, refl, sym, ap, ◌∙◌, subst, inl, inr, arith}
use Rattle.std.proofs.lemmas.Bool.{cases_lt, cases_order}
use Rattle.std.proofs.lemmas.List.{length-take-le, take-take, take_all}
use Rattle.repl_lsn.specs.Segment.{IsSegSize}
use Rattle.repl_page.specs.declared.fault.PageFault.{PageFault}
use Rattle.repl_page.specs.declared.ident.Ident.{Ident}
use Rattle.repl_page.specs.Header.{IsPageFault, header_of}
use Rattle.repl_record.specs.declared.record.RecordIn.{RecordIn}
use Rattle.repl_record.specs.declared.answer.WalkReason.{WalkReason}
use Rattle.repl_record.specs.declared.answer.WalkReason.TheVariants as why
use Rattle.repl_record.specs.declared.answer.WalkStep.{WalkStep}
use Rattle.repl_record.specs.declared.answer.WalkStep.TheVariants as step
use Rattle.repl_record.specs.Record.{IsImage, content, from_page, remaining, start_of}
use Rattle.repl_record.specs.Judging.{Answers, IsBeginning, IsFaultAt, IsFirstFault, IsHeaderFault, IsOpenBefore, IsOver, IsRight, IsSameAnswer, IsWhole, length_field, place_of}
use Rattle.repl_record.proofs.Pages.{header_is}
use Rattle.repl_record.proofs.Headers.{one_fault}
use Rattle.repl_record.proofs.JudgingCalm.{header_fault_last}
use Rattle.repl_record.proofs.ImageRightFronts.{front_some, image_length, image_over}
use Rattle.repl_record.proofs.ImageRight.{image_open, image_right}

-- ---- one reason

-- only one header can end there
one_header_fault : (ident : Ident) (timeline : ℕ → ℕ) (from : ℕ) (log : List ℕ) (a b : PageFault) → IsHeaderFault ident timeline from log a
    → IsHeaderFault ident timeline from log b → a ≡ b
one_header_fault ident timeline from log a b first second =
    let size = ident.size in
    let same : second.page ≡ first.page = omega (
      arith,
      first.is_page,
      second.is_page,
      first.ended,
      second.ended,
      header_is size first.page,
      header_is size second.page,
    ) in
    let due = λ (page : ℕ). header_of ident (timeline page) page (remaining size (length_field (content size from log)) from log page) in
    one_fault (due first.page) (from_page from log first.page) a b first.fault
    (subst (λ (page : ℕ). IsPageFault (due page) (from_page from log page) b) same second.fault)

-- the counts of bytes tell the other faults apart
one_reason : (ident : Ident) (timeline : ℕ → ℕ) (from prev : ℕ) (log : List ℕ) (a b : WalkReason) → IsSegSize ident.size
    → IsFaultAt ident timeline from prev log a → IsFaultAt ident timeline from prev log b → a ≡ b
one_reason ident timeline from prev log (why.Page a) (why.Page b) size_is first second =
    ap why.Page (one_header_fault ident timeline from log a b first second)
one_reason ident timeline from prev log (why.Page a) (why.Length b) size_is first second =
    absurd (header_fault_last ident timeline from log a size_is first second.0.last)
one_reason ident timeline from prev log (why.Page a) (why.Prev b c) size_is first second =
    absurd (header_fault_last ident timeline from log a size_is first second.0.last)
one_reason ident timeline from prev log (why.Page a) why.Reserved size_is first second =
    absurd (header_fault_last ident timeline from log a size_is first second.0.last)
one_reason ident timeline from prev log (why.Page a) (why.Checksum b c) size_is first second =
    absurd (header_fault_last ident timeline from log a size_is first second.0.last)
one_reason ident timeline from prev log (why.Page a) why.Padding size_is first second =
    absurd (header_fault_last ident timeline from log a size_is first second.0)
one_reason ident timeline from prev log (why.Length a) (why.Page b) size_is first second =
    absurd (header_fault_last ident timeline from log b size_is second first.0.last)
one_reason ident timeline from prev log (why.Prev a c) (why.Page b) size_is first second =
    absurd (header_fault_last ident timeline from log b size_is second first.0.last)
one_reason ident timeline from prev log why.Reserved (why.Page b) size_is first second =
    absurd (header_fault_last ident timeline from log b size_is second first.0.last)
one_reason ident timeline from prev log (why.Checksum a c) (why.Page b) size_is first second =
    absurd (header_fault_last ident timeline from log b size_is second first.0.last)
one_reason ident timeline from prev log why.Padding (why.Page b) size_is first second =
    absurd (header_fault_last ident timeline from log b size_is second first.0)
one_reason ident timeline from prev log (why.Length a) (why.Length b) size_is first second = ap why.Length (first.1 ∙ sym second.1)
one_reason ident timeline from prev log (why.Prev a b) (why.Prev c d) size_is first second = ap (λ t. why.Prev t b) (first.2 ∙ sym second.2)
    ∙ ap (why.Prev c) (first.3 ∙ sym second.3)
one_reason ident timeline from prev log why.Reserved why.Reserved size_is first second = refl
one_reason ident timeline from prev log (why.Checksum a b) (why.Checksum c d) size_is first second = ap (λ t. why.Checksum t b) (first.2
    ∙ sym second.2) ∙ ap (why.Checksum c) (first.3 ∙ sym second.3)
one_reason ident timeline from prev log why.Padding why.Padding size_is first second = refl
one_reason ident timeline from prev log a b size_is first second = absurd (omega arith)

-- ---- images

-- in a front of the log that is an image nothing is wrong, and it is not over before
pub front_right : (ident : Ident) (timeline : ℕ → ℕ) (from prev n : ℕ) (item : RecordIn) (log : List ℕ) → IsSegSize ident.size → from % 8 ≡ 0
    → IsImage ident timeline from prev item (take n log) → IsRight ident timeline from prev (take n log)
front_right ident timeline from prev n item log size_is eight is =
    let front = take n log in
    subst (IsRight ident timeline from prev) (take_all (length front) front (omega arith)) (image_right ident timeline from prev
    (length front) item front size_is eight is (omega arith))

pub front_open : (ident : Ident) (timeline : ℕ → ℕ) (from prev n : ℕ) (item : RecordIn) (log : List ℕ) → IsSegSize ident.size → from % 8 ≡ 0
    → n ≤ length log → IsImage ident timeline from prev item (take n log) → IsOpenBefore ident timeline from prev log n
front_open ident timeline from prev n item log size_is eight within is m below =
    let counted = length-take-le n log within in
    let before = image_open ident timeline from prev item (take n log) size_is eight is m (omega arith) in
    subst (λ (t : List ℕ). (¬ IsOver ident.size from t) × IsRight ident timeline from prev t) (take-take m n log (omega arith)) before

-- so two images from one start are equally long
pub same_end : (ident : Ident) (timeline : ℕ → ℕ) (from prev : ℕ) (a b : RecordIn) (log : List ℕ) (m n : ℕ) → IsSegSize ident.size
    → from % 8 ≡ 0 → m ≤ length log → n ≤ length log
    → IsImage ident timeline from prev a (take m log) → IsImage ident timeline from prev b (take n log) → m ≡ n
same_end ident timeline from prev a b log m n size_is eight m_in n_in first second =
    elim (cases_order m n) [
      | inl same ↦ same
      | inr (inl below) ↦ absurd ((front_open ident timeline from prev n b log size_is eight n_in second m below).0
          (image_over ident timeline from prev a (take m log) size_is first))
      | inr (inr above) ↦ absurd ((front_open ident timeline from prev m a log size_is eight m_in first n above).0
          (image_over ident timeline from prev b (take n log) size_is second))
    ]

-- and the image is the answer
pub answered : (ident : Ident) (timeline : ℕ → ℕ) (from prev : ℕ) (item : RecordIn) (log : List ℕ) (n : ℕ) → IsSegSize ident.size
    → from % 8 ≡ 0 → n ≤ length log
    → IsImage ident timeline from prev item (take n log) → IsWhole ident timeline from prev log (start_of ident.size from) (from + n)
answered ident timeline from prev item log n size_is eight within is =
    let counted = length-take-le n log within in
    let past : n ≡ from + n - from = omega arith in
    record {
      item = item;
      begins = refl;
      after = omega (
        arith,
        front_some ident timeline from prev item (take n log) is,
        image_length ident timeline from prev item (take n log) is,
      );
      within = omega arith;
      first = subst (IsOpenBefore ident timeline from prev log) past (front_open ident timeline from prev n item log size_is eight within
          is);
      image = subst (λ (k : ℕ). IsImage ident timeline from prev item (take k log)) past is;
    }

-- ---- one answer

-- the log is open up to there at most
open_whole : (ident : Ident) (timeline : ℕ → ℕ) (from prev start end n : ℕ) (log : List ℕ) → IsSegSize ident.size
    → IsWhole ident timeline from prev log start end → IsOpenBefore ident timeline from prev log n → n ≤ end - from
open_whole ident timeline from prev start end n log size_is is opened =
    elim (cases_lt (end - from) n) [
      | inl below ↦ absurd ((opened (end - from) below).0 (image_over ident timeline from prev is.item (take (end - from) log) size_is
          is.image))
      | inr above ↦ above
    ]

pub open_fault : (ident : Ident) (timeline : ℕ → ℕ) (from prev at n : ℕ) (log : List ℕ) (reason : WalkReason)
    → (is : IsFirstFault ident timeline from prev log at reason) → IsOpenBefore ident timeline from prev log n → n ≤ is.n
open_fault ident timeline from prev at n log reason is opened =
    elim (cases_lt is.n n) [
      | inl below ↦ absurd ((opened is.n below).1 reason is.fault)
      | inr above ↦ above
    ]

-- where a record is whole there is no fault, and more than a beginning
whole_no_fault : (ident : Ident) (timeline : ℕ → ℕ) (from prev start end at : ℕ) (log : List ℕ) (reason : WalkReason) → IsSegSize ident.size
    → from % 8 ≡ 0
    → IsWhole ident timeline from prev log start end → ¬ IsFirstFault ident timeline from prev log at reason
whole_no_fault ident timeline from prev start end at log reason size_is eight whole bad =
    let n = end - from in
    let at_most = open_whole ident timeline from prev start end bad.n log size_is whole bad.first in
    let at_least = open_fault ident timeline from prev at n log reason bad whole.first in
    let same : bad.n ≡ n = omega arith in
    front_right ident timeline from prev n whole.item log size_is eight whole.image reason
    (subst (λ (k : ℕ). IsFaultAt ident timeline from prev (take k log) reason) same bad.fault)

whole_no_beginning : (ident : Ident) (timeline : ℕ → ℕ) (from prev start end : ℕ) (log : List ℕ) → IsSegSize ident.size
    → IsWhole ident timeline from prev log start end → ¬ IsBeginning ident timeline from prev log
whole_no_beginning ident timeline from prev start end log size_is whole short =
    absurd (omega (arith, open_whole ident timeline from prev start end (length log + 1) log size_is whole short, whole.within))

fault_no_beginning : (ident : Ident) (timeline : ℕ → ℕ) (from prev at : ℕ) (log : List ℕ) (reason : WalkReason)
    → IsFirstFault ident timeline from prev log at reason → ¬ IsBeginning ident timeline from prev log
fault_no_beginning ident timeline from prev at log reason bad short =
    absurd (omega (arith, open_fault ident timeline from prev at (length log + 1) log reason bad short, bad.within))

-- two answers of one kind are one
one_whole : (ident : Ident) (timeline : ℕ → ℕ) (from prev start end start' end' : ℕ) (log : List ℕ) → IsSegSize ident.size
    → IsWhole ident timeline from prev log start end → IsWhole ident timeline from prev log start' end' → (start ≡ start') × (end ≡ end')
one_whole ident timeline from prev start end start' end' log size_is first second =
    let at_most = open_whole ident timeline from prev start' end' (end - from) log size_is second first.first in
    let at_least = open_whole ident timeline from prev start end (end' - from) log size_is first second.first in
    (first.begins ∙ sym second.begins, omega (arith, first.after, second.after))

one_first_fault : (ident : Ident) (timeline : ℕ → ℕ) (from prev at at' : ℕ) (log : List ℕ) (reason reason' : WalkReason)
    → IsSegSize ident.size
    → IsFirstFault ident timeline from prev log at reason → IsFirstFault ident timeline from prev log at' reason' → (at ≡ at')
    × (reason ≡ reason')
one_first_fault ident timeline from prev at at' log reason reason' size_is first second =
    let at_most = open_fault ident timeline from prev at' first.n log reason' second first.first in
    let at_least = open_fault ident timeline from prev at second.n log reason first second.first in
    let same : second.n ≡ first.n = omega arith in
    let alike = one_reason ident timeline from prev (take first.n log) reason reason' size_is first.fault
    (subst (λ (k : ℕ). IsFaultAt ident timeline from prev (take k log) reason') same second.fault) in (
      first.place ∙ ap (place_of ident.size from (take first.n log)) alike
          ∙ ap (λ (k : ℕ). place_of ident.size from (take k log) reason') (sym same) ∙ sym second.place,
      alike,
    )

pub same_answer : (ident : Ident) (timeline : ℕ → ℕ) (from prev : ℕ) (log : List ℕ) (a b : WalkStep) → IsSegSize ident.size → from % 8 ≡ 0
    → Answers ident timeline from prev log a → Answers ident timeline from prev log b → IsSameAnswer a b
same_answer ident timeline from prev log (step.Whole start end used) (step.Whole start' end' used') size_is eight first second =
    one_whole ident timeline from prev start end start' end' log size_is first second
same_answer ident timeline from prev log (step.Whole start end used) step.Short size_is eight first second =
    whole_no_beginning ident timeline from prev start end log size_is first second
same_answer ident timeline from prev log (step.Whole start end used) (step.Bad at reason) size_is eight first second =
    whole_no_fault ident timeline from prev start end at log reason size_is eight first second
same_answer ident timeline from prev log step.Short (step.Whole start end used) size_is eight first second =
    whole_no_beginning ident timeline from prev start end log size_is second first
same_answer ident timeline from prev log step.Short step.Short size_is eight first second = tt
same_answer ident timeline from prev log step.Short (step.Bad at reason) size_is eight first second =
    fault_no_beginning ident timeline from prev at log reason second first
same_answer ident timeline from prev log (step.Bad at reason) (step.Whole start end used) size_is eight first second =
    whole_no_fault ident timeline from prev start end at log reason size_is eight second first
same_answer ident timeline from prev log (step.Bad at reason) step.Short size_is eight first second =
    fault_no_beginning ident timeline from prev at log reason first second
same_answer ident timeline from prev log (step.Bad at reason) (step.Bad at' reason') size_is eight first second =
    one_first_fault ident timeline from prev at at' log reason reason' size_is first second
