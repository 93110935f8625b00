-- Where the records of a log begin: at one position, however the log goes on.
use Rattle.std.proofs.Common.{◌≡◌, ℕ, ◌+◌, ◌-◌, ◌%◌, ◌≤◌, List, ◌++◌, length, drop, sym, ◌∙◌, subst, inl, inr, arith}
use Rattle.std.proofs.lemmas.List.{drop-append-le, length-take-le}
use Rattle.repl_lsn.specs.Segment.{IsSegSize}
use Rattle.repl_page.specs.declared.ident.Ident.{Ident}
use Rattle.repl_page.specs.Page.{IsPage}
use Rattle.repl_record.specs.declared.answer.WalkReason.{WalkReason}
use Rattle.repl_walk.proofs.Faults.{fault_more}
use Rattle.repl_walk.proofs.RestAnswers.{fault_not_whole, one_whole, whole_not_begun}
use Rattle.repl_walk.proofs.RestWalks.{whole_more}
use Rattle.repl_walk.proofs.RestWalks.{fault_more as rest_fault_more}
use Rattle.repl_walk.specs.Faults.{IsFaultPast}
use Rattle.repl_check.specs.Fits.{HasBadRecord, HasBadRest, IsFirst, IsUnbegun}

-- ---- one start

pub one_start : (ident : Ident) (timeline : ℕ → ℕ) (rest floor : ℕ) (log : List ℕ) (start other : ℕ)
    → IsFirst ident timeline rest floor log start → IsFirst ident timeline rest floor log other → start ≡ other
one_start ident timeline rest floor log start other (inl a) (inl b) = a.1 ∙ sym b.1
one_start ident timeline rest floor log start other (inl a) (inr b) = absurd (omega (arith, a.0, b.0))
one_start ident timeline rest floor log start other (inr a) (inl b) = absurd (omega (arith, a.0, b.0))
one_start ident timeline rest floor log start other (inr a) (inr b) = one_whole ident timeline rest floor log start other a.1 b.1

pub first_begun : (ident : Ident) (timeline : ℕ → ℕ) (rest floor : ℕ) (log : List ℕ) (start : ℕ)
    → IsFirst ident timeline rest floor log start → IsUnbegun ident timeline rest floor log → ⊥
first_begun ident timeline rest floor log start (inl a) unbegun = absurd (omega (arith, a.0, unbegun.0))
first_begun ident timeline rest floor log start (inr a) unbegun = whole_not_begun ident timeline rest floor log start a.1 unbegun.1

pub first_not_bad : (ident : Ident) (timeline : ℕ → ℕ) (rest floor : ℕ) (log : List ℕ) (start at : ℕ) (reason : WalkReason) → IsSegSize ident.size
    → IsFirst ident timeline rest floor log start → HasBadRest ident timeline rest floor log at reason → ⊥
first_not_bad ident timeline rest floor log start at reason size_is (inl a) bad = absurd (omega (arith, a.0, bad.0))
first_not_bad ident timeline rest floor log start at reason size_is (inr a) bad =
    fault_not_whole ident timeline rest floor log at start reason size_is bad.1 a.1

-- ---- where it stands

pub first_placed : (ident : Ident) (timeline : ℕ → ℕ) (rest floor : ℕ) (log : List ℕ) (start : ℕ) → IsPage floor
    → IsFirst ident timeline rest floor log start → (floor ≤ start) × (start ≤ floor + length log) × (start % 8 ≡ 0)
first_placed ident timeline rest floor log start on_page (inl a) = (omega (arith, a.1), omega (arith, a.1), omega (arith, a.1, on_page))
first_placed ident timeline rest floor log start on_page (inr a) =
    let whole = a.1 in
    let counted = length-take-le (start - floor) log (omega (arith, whole.within)) in (
      omega (arith, whole.after),
      whole.within,
      omega (arith, whole.rest_is.rounded, whole.after, counted),
    )

-- ---- more bytes

pub first_more : (ident : Ident) (timeline : ℕ → ℕ) (rest floor : ℕ) (log more : List ℕ) (start : ℕ)
    → IsFirst ident timeline rest floor log start → IsFirst ident timeline rest floor (log ++ more) start
first_more ident timeline rest floor log more start (inl a) = inl a
first_more ident timeline rest floor log more start (inr a) = inr (a.0, whole_more ident timeline rest floor start log more a.1)

-- what stands after the start
pub drop_more : (ident : Ident) (timeline : ℕ → ℕ) (rest floor : ℕ) (log more : List ℕ) (start : ℕ) → IsPage floor
    → IsFirst ident timeline rest floor log start → drop (start - floor) (log ++ more) ≡ drop (start - floor) log ++ more
drop_more ident timeline rest floor log more start on_page first =
    let placed = first_placed ident timeline rest floor log start on_page first in
    drop-append-le (start - floor) log more (omega (arith, placed.1))

pub bad_rest_more : (ident : Ident) (timeline : ℕ → ℕ) (rest floor : ℕ) (log more : List ℕ) (at : ℕ) (reason : WalkReason)
    → HasBadRest ident timeline rest floor log at reason → HasBadRest ident timeline rest floor (log ++ more) at reason
bad_rest_more ident timeline rest floor log more at reason bad = (bad.0, rest_fault_more ident timeline rest floor at reason log more bad.1)

pub bad_record_more : (ident : Ident) (timeline : ℕ → ℕ) (rest floor : ℕ) (log more : List ℕ) (start end last at : ℕ) (reason : WalkReason)
    → IsPage floor → HasBadRecord ident timeline rest floor log start end last at reason
    → HasBadRecord ident timeline rest floor (log ++ more) start end last at reason
bad_record_more ident timeline rest floor log more start end last at reason on_page bad = record {
  first = first_more ident timeline rest floor log more start bad.first;
  prev = bad.prev;
  before = bad.before;
  fault = subst (λ (t : List ℕ). IsFaultPast ident timeline start bad.prev t end last at reason)
      (sym (drop_more ident timeline rest floor log more start on_page bad.first))
      (fault_more ident timeline start bad.prev (drop (start - floor) log) more end last at reason bad.fault);
  unlike = bad.unlike;
}
