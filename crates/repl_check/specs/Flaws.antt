-- What is wrong with a log that does not fit, as one answer.
use Rattle.std.specs.Prelude.{◌≡◌, ◌≢◌, ℕ, ◌<◌, ◌≤◌, ◌⊎◌, List}
use Rattle.repl_page.specs.declared.ident.Ident.{Ident}
use Rattle.repl_record.specs.declared.answer.WalkReason.{WalkReason}
use Rattle.repl_check.specs.declared.flaw.Flaw.{Flaw}
use Rattle.repl_check.specs.declared.flaw.Flaw.TheVariants as flaw
use Rattle.repl_check.specs.Fits.{HasBadRecord, HasBadRest, HasRecords, IsStoredRight, IsUnbegun, rest_of}

-- ---- where the store says that the last whole record ends, none does

-- the log is records, and another end is the last whole record's
pub record EndsElsewhere (ident : Ident) (timeline : ℕ → ℕ) (rest floor : ℕ) (log : List ℕ) (whole : ℕ) : Type 0 where
  pub start : ℕ
  pub end : ℕ
  pub last : ℕ
  pub records : HasRecords ident timeline rest floor log start end last
  pub elsewhere : end ≢ whole

-- a later record ends before what is wrong
pub record EndsLater (ident : Ident) (timeline : ℕ → ℕ) (rest floor : ℕ) (log : List ℕ) (whole : ℕ) : Type 0 where
  pub start : ℕ
  pub end : ℕ
  pub last : ℕ
  pub at : ℕ
  pub reason : WalkReason
  pub bad : HasBadRecord ident timeline rest floor log start end last at reason
  pub later : whole < end

-- ---- the last whole record ends there, and starts elsewhere

-- the last whole record ends at `end`, whatever stands after it
abbrev pub HasEnd : Ident → (ℕ → ℕ) → ℕ → ℕ → List ℕ → ℕ → ℕ → ℕ → Type 0
HasEnd ident timeline rest floor log start end last = HasRecords ident timeline rest floor log start end last
    ⊎ ((at : ℕ) × (reason : WalkReason) × HasBadRecord ident timeline rest floor log start end last at reason)

pub record StartsElsewhere (ident : Ident) (timeline : ℕ → ℕ) (rest floor : ℕ) (log : List ℕ) (whole stored : ℕ) : Type 0 where
  pub start : ℕ
  pub last : ℕ
  pub ends : HasEnd ident timeline rest floor log start whole last
  pub wrong : ¬ IsStoredRight ident floor start whole last stored

-- ---- bytes that are no record

-- what stands after the records is none, and they end before that position, or there and as is said
pub record BreaksOff (ident : Ident) (timeline : ℕ → ℕ) (rest floor : ℕ) (log : List ℕ) (whole stored at : ℕ) (reason : WalkReason)
    : Type 0 where
  pub start : ℕ
  pub end : ℕ
  pub last : ℕ
  pub bad : HasBadRecord ident timeline rest floor log start end last at reason
  pub before : end ≤ whole
  pub stored_right : end ≡ whole → IsStoredRight ident floor start end last stored

-- ---- the flaw

-- after so many bytes of an earlier record
abbrev pub IsFlawPast : Ident → (ℕ → ℕ) → ℕ → ℕ → List ℕ → ℕ → ℕ → Flaw → Type 0
IsFlawPast ident timeline rest floor log whole stored flaw.Whole = IsUnbegun ident timeline rest floor log
    ⊎ EndsElsewhere ident timeline rest floor log whole
    ⊎ EndsLater ident timeline rest floor log whole
IsFlawPast ident timeline rest floor log whole stored flaw.Last = StartsElsewhere ident timeline rest floor log whole stored
IsFlawPast ident timeline rest floor log whole stored (flaw.Bad at reason) = HasBadRest ident timeline rest floor log at reason
    ⊎ BreaksOff ident timeline rest floor log whole stored at reason

-- the log has this flaw, where the store says that the last whole record ends at `whole` and starts at `stored`
abbrev pub IsFlaw : Ident → (ℕ → ℕ) → ℕ → List ℕ → ℕ → ℕ → Flaw → Type 0
IsFlaw ident timeline floor log whole stored flaw = IsFlawPast ident timeline (rest_of ident floor log) floor log whole stored flaw
