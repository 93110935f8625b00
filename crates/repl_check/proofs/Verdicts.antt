-- A log that fits has no flaw, and one that does not has one.
use Rattle.std.proofs.Common.{◌≡◌, ℕ, ◌-◌, ◌<◌, ◌⊎◌, List, drop, refl, sym, ap, ◌∙◌, subst, inl, inr, arith}
use Rattle.repl_lsn.specs.Segment.{IsSegSize}
use Rattle.repl_page.specs.declared.ident.Ident.{Ident}
use Rattle.repl_page.specs.Page.{IsPage}
use Rattle.repl_record.specs.declared.answer.WalkReason.{WalkReason}
use Rattle.repl_check.specs.declared.flaw.Flaw.{Flaw}
use Rattle.repl_check.specs.declared.flaw.Flaw.TheVariants as flaw
use Rattle.repl_check.specs.Fits.{Fits, HasBadRecord, HasBadRest, HasRecords, IsOrigin, IsStoredRight, rest_of}
use Rattle.repl_check.specs.Flaws.{BreaksOff, HasEnd, IsFlaw, IsFlawPast, StartsElsewhere}
use Rattle.repl_walk.proofs.RestAnswers.{fault_not_begun}
use Rattle.repl_check.proofs.RestFaults.{one_rest_fault}
use Rattle.repl_check.proofs.Single.{one_bad, one_records_end, records_not_bad}
use Rattle.repl_check.proofs.Starts.{first_begun, first_not_bad, first_placed, one_start}

module _ (ident : Ident) (timeline : ℕ → ℕ) (rest floor : ℕ) (log : List ℕ) (size_is : IsSegSize ident.size) (on_page : IsPage floor) where
  abbrev pub Records : ℕ → ℕ → ℕ → Type 0
  Records start end last = HasRecords ident timeline rest floor log start end last

  abbrev pub Bad : ℕ → ℕ → ℕ → ℕ → WalkReason → Type 0
  Bad start end last at reason = HasBadRecord ident timeline rest floor log start end last at reason

  -- ---- two findings

  one_end : (start end last other later begun : ℕ) → Records start end last → Records other later begun
      → (start ≡ other) × (end ≡ later) × ((start < end) ⊎ IsOrigin ident floor → last ≡ begun)
  one_end start end last other later begun a b =
      let same = one_start ident timeline rest floor log start other a.first b.first in
      let eight = (first_placed ident timeline rest floor log start on_page a.first).2 in
      let second = subst (λ (s : ℕ). Records s later begun) (sym same) b in
      let one = one_records_end ident timeline floor start (drop (start - floor) log) size_is eight a.prev second.prev end last later begun
      a.before second.before a.records a.whole second.records second.whole in
      (same, one.0, one.1)

  not_both : (start end last other later begun at : ℕ) (reason : WalkReason) → Records start end last → Bad other later begun at reason → ⊥
  not_both start end last other later begun at reason a b =
      let same = one_start ident timeline rest floor log start other a.first b.first in
      let eight = (first_placed ident timeline rest floor log start on_page a.first).2 in
      let second = subst (λ (s : ℕ). Bad s later begun at reason) (sym same) b in
      records_not_bad ident timeline floor start (drop (start - floor) log) size_is eight a.prev second.prev later begun at reason a.before
      second.before a.records second.fault second.unlike

  one_break : (start end last at other later begun place : ℕ) (reason cause : WalkReason) → Bad start end last at reason
      → Bad other later begun place cause
      → (start ≡ other) × (end ≡ later) × ((start < end) ⊎ IsOrigin ident floor → last ≡ begun) × (at ≡ place) × (reason ≡ cause)
  one_break start end last at other later begun place reason cause a b =
      let same = one_start ident timeline rest floor log start other a.first b.first in
      let eight = (first_placed ident timeline rest floor log start on_page a.first).2 in
      let second = subst (λ (s : ℕ). Bad s later begun place cause) (sym same) b in
      let one = one_bad ident timeline floor start (drop (start - floor) log) size_is eight a.prev second.prev end last at later begun place
      reason cause a.before second.before a.fault a.unlike second.fault second.unlike in
      (same, one.0, one.1, one.2, one.3)

  -- what is right of the one is right of the other
  stored_as : (start other whole last begun stored : ℕ) → start ≡ other → ((start < whole) ⊎ IsOrigin ident floor → last ≡ begun)
      → IsStoredRight ident floor start whole last stored → IsStoredRight ident floor other whole begun stored
  stored_as start other whole last begun stored same alike right judged =
      let here = subst (λ (s : ℕ). (s < whole) ⊎ IsOrigin ident floor) (sym same) judged in
      right here ∙ alike here

  -- ---- no flaw

  no_flaw : (start whole last stored : ℕ) (f : Flaw) → Records start whole last → IsStoredRight ident floor start whole last stored
      → IsFlawPast ident timeline rest floor log whole stored f → ⊥
  no_flaw start whole last stored flaw.Whole records right (inl unbegun) = first_begun ident timeline rest floor log start records.first unbegun
  no_flaw start whole last stored flaw.Whole records right (inr (inl e)) =
      e.elsewhere (sym (one_end start whole last e.start e.end e.last records e.records).1)
  no_flaw start whole last stored flaw.Whole records right (inr (inr e)) =
      not_both start whole last e.start e.end e.last e.at e.reason records e.bad
  no_flaw start whole last stored flaw.Last records right e = last_wrong e.ends
    where
      last_wrong : HasEnd ident timeline rest floor log e.start whole e.last → ⊥
      last_wrong (inl others) =
          let one = one_end start whole last e.start whole e.last records others in
          e.wrong (stored_as start e.start whole last e.last stored one.0 one.2 right)
      last_wrong (inr bad) = not_both start whole last e.start whole e.last bad.0 bad.1 records bad.2
  no_flaw start whole last stored (flaw.Bad at reason) records right (inl bad) =
      first_not_bad ident timeline rest floor log start at reason size_is records.first bad
  no_flaw start whole last stored (flaw.Bad at reason) records right (inr e) =
      not_both start whole last e.start e.end e.last at reason records e.bad

  -- ---- one flaw

  -- what has an end that is judged
  end_of : (start whole last : ℕ) → HasEnd ident timeline rest floor log start whole last → (at : ℕ) (reason : WalkReason)
      → HasBadRest ident timeline rest floor log at reason → ⊥
  end_of start whole last (inl records) at reason bad = first_not_bad ident timeline rest floor log start at reason size_is records.first bad
  end_of start whole last (inr found) at reason bad = first_not_bad ident timeline rest floor log start at reason size_is found.2.first bad

  whole_not_last : (whole stored : ℕ) → IsFlawPast ident timeline rest floor log whole stored flaw.Whole
      → (start last : ℕ) → HasEnd ident timeline rest floor log start whole last → ⊥
  whole_not_last whole stored (inl unbegun) start last (inl records) = first_begun ident timeline rest floor log start records.first unbegun
  whole_not_last whole stored (inl unbegun) start last (inr found) = first_begun ident timeline rest floor log start found.2.first unbegun
  whole_not_last whole stored (inr (inl e)) start last (inl records) =
      e.elsewhere (one_end e.start e.end e.last start whole last e.records records).1
  whole_not_last whole stored (inr (inl e)) start last (inr found) =
      not_both e.start e.end e.last start whole last found.0 found.1 e.records found.2
  whole_not_last whole stored (inr (inr e)) start last (inl records) =
      not_both start whole last e.start e.end e.last e.at e.reason records e.bad
  whole_not_last whole stored (inr (inr e)) start last (inr found) =
      absurd (omega (
        arith,
        e.later,
        (one_break e.start e.end e.last e.at start whole last found.0 e.reason found.1 e.bad found.2).1,
      ))

  whole_not_bad : (whole stored at : ℕ) (reason : WalkReason) → IsFlawPast ident timeline rest floor log whole stored flaw.Whole
      → IsFlawPast ident timeline rest floor log whole stored (flaw.Bad at reason) → ⊥
  whole_not_bad whole stored at reason (inl unbegun) (inl bad) =
      fault_not_begun ident timeline rest floor log at reason size_is bad.1 unbegun.1
  whole_not_bad whole stored at reason (inl unbegun) (inr b) = first_begun ident timeline rest floor log b.start b.bad.first unbegun
  whole_not_bad whole stored at reason (inr (inl e)) (inl bad) =
      first_not_bad ident timeline rest floor log e.start at reason size_is e.records.first bad
  whole_not_bad whole stored at reason (inr (inl e)) (inr b) =
      not_both e.start e.end e.last b.start b.end b.last at reason e.records b.bad
  whole_not_bad whole stored at reason (inr (inr e)) (inl bad) =
      first_not_bad ident timeline rest floor log e.start at reason size_is e.bad.first bad
  whole_not_bad whole stored at reason (inr (inr e)) (inr b) =
      absurd (omega (
        arith,
        e.later,
        b.before,
        (one_break e.start e.end e.last e.at b.start b.end b.last at e.reason reason e.bad b.bad).1,
      ))

  last_not_break : (whole stored start last at : ℕ) (reason : WalkReason) → HasEnd ident timeline rest floor log start whole last
      → ¬ IsStoredRight ident floor start whole last stored → BreaksOff ident timeline rest floor log whole stored at reason → ⊥
  last_not_break whole stored start last at reason (inl records) wrong b =
      not_both start whole last b.start b.end b.last at reason records b.bad
  last_not_break whole stored start last at reason (inr found) wrong b =
      let one = one_break b.start b.end b.last at start whole last found.0 reason found.1 b.bad found.2 in
      let right = subst (λ (e : ℕ). IsStoredRight ident floor b.start e b.last stored) one.1 (b.stored_right one.1) in
      wrong (stored_as b.start start whole b.last last stored one.0 (subst (λ (e : ℕ). (b.start < e) ⊎ IsOrigin ident floor → b.last ≡ last)
      one.1 one.2) right)

  last_not_bad : (whole stored at : ℕ) (reason : WalkReason) → StartsElsewhere ident timeline rest floor log whole stored
      → IsFlawPast ident timeline rest floor log whole stored (flaw.Bad at reason) → ⊥
  last_not_bad whole stored at reason l (inl bad) = end_of l.start whole l.last l.ends at reason bad
  last_not_bad whole stored at reason l (inr b) = last_not_break whole stored l.start l.last at reason l.ends l.wrong b

  bad_is : {at place : ℕ} {reason cause : WalkReason} → at ≡ place → reason ≡ cause → flaw.Bad at reason ≡ flaw.Bad place cause
  bad_is {at = at} {cause = cause} same alike = ap (flaw.Bad at) alike ∙ ap (λ (p : ℕ). flaw.Bad p cause) same

  one_bad_flaw : (whole stored at place : ℕ) (reason cause : WalkReason)
      → IsFlawPast ident timeline rest floor log whole stored (flaw.Bad at reason)
      → IsFlawPast ident timeline rest floor log whole stored (flaw.Bad place cause) → flaw.Bad at reason ≡ flaw.Bad place cause
  one_bad_flaw whole stored at place reason cause (inl a) (inl b) =
      let one = one_rest_fault ident timeline rest floor at place log reason cause size_is a.1 b.1 in bad_is one.0 one.1
  one_bad_flaw whole stored at place reason cause (inl a) (inr b) =
      absurd (first_not_bad ident timeline rest floor log b.start at reason size_is b.bad.first a)
  one_bad_flaw whole stored at place reason cause (inr a) (inl b) =
      absurd (first_not_bad ident timeline rest floor log a.start place cause size_is a.bad.first b)
  one_bad_flaw whole stored at place reason cause (inr a) (inr b) =
      let one = one_break a.start a.end a.last at b.start b.end b.last place reason cause a.bad b.bad in bad_is one.3 one.4

  one_flaw_past : (whole stored : ℕ) (f g : Flaw) → IsFlawPast ident timeline rest floor log whole stored f
      → IsFlawPast ident timeline rest floor log whole stored g → f ≡ g
  one_flaw_past whole stored flaw.Whole flaw.Whole a b = refl
  one_flaw_past whole stored flaw.Whole flaw.Last a b = absurd (whole_not_last whole stored a b.start b.last b.ends)
  one_flaw_past whole stored flaw.Whole (flaw.Bad at reason) a b = absurd (whole_not_bad whole stored at reason a b)
  one_flaw_past whole stored flaw.Last flaw.Whole a b = absurd (whole_not_last whole stored b a.start a.last a.ends)
  one_flaw_past whole stored flaw.Last flaw.Last a b = refl
  one_flaw_past whole stored flaw.Last (flaw.Bad at reason) a b = absurd (last_not_bad whole stored at reason a b)
  one_flaw_past whole stored (flaw.Bad at reason) flaw.Whole a b = absurd (whole_not_bad whole stored at reason b a)
  one_flaw_past whole stored (flaw.Bad at reason) flaw.Last a b = absurd (last_not_bad whole stored at reason b a)
  one_flaw_past whole stored (flaw.Bad at reason) (flaw.Bad place cause) a b = one_bad_flaw whole stored at place reason cause a b

pub same_flaw : (ident : Ident) (timeline : ℕ → ℕ) (floor : ℕ) (log : List ℕ) (whole stored : ℕ) (f g : Flaw) → IsSegSize ident.size
    → IsPage floor → IsFlaw ident timeline floor log whole stored f → IsFlaw ident timeline floor log whole stored g → f ≡ g
same_flaw ident timeline floor log whole stored f g size_is on_page a b =
    one_flaw_past ident timeline (rest_of ident floor log) floor log size_is on_page whole stored f g a b

pub fits_no_flaw : (ident : Ident) (timeline : ℕ → ℕ) (floor : ℕ) (log : List ℕ) (whole stored : ℕ) (f : Flaw) → IsSegSize ident.size
    → IsPage floor → Fits ident timeline floor log whole stored → IsFlaw ident timeline floor log whole stored f → ⊥
fits_no_flaw ident timeline floor log whole stored f size_is on_page fits is =
    no_flaw ident timeline (rest_of ident floor log) floor log size_is on_page fits.start whole fits.last stored f fits.records
    fits.stored_right is
