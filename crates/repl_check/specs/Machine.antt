-- What a `LogCheck` stands for: the log's bytes from the floor on, as far as they were taken.
use Rattle.std.specs.Prelude.{◌≡◌, ◌≢◌, ℕ, ◌+◌, ◌-◌, ◌<◌, List, length, drop}
use Rattle.repl_lsn.specs.Segment.{IsSegSize}
use Rattle.repl_page.specs.declared.ident.Ident.{Ident}
use Rattle.repl_page.specs.Page.{IsPage}
use Rattle.repl_record.specs.declared.answer.WalkReason.{WalkReason}
use Rattle.repl_record.specs.declared.answer.WalkReason.TheVariants as why
use Rattle.repl_record.specs.declared.walker.Walker.{Walker}
use Rattle.repl_record.specs.Walker.{identity, last_end, position}
use Rattle.repl_walk.specs.declared.rest.Rest.{Rest}
use Rattle.repl_walk.specs.Rest.{HasPassed, IsRestBegun, rest_identity, rest_position}
use Rattle.repl_walk.specs.Walks.{HasRefused, HasWalked}
use Rattle.repl_check.specs.declared.log_check.LogCheck.{LogCheck}
use Rattle.repl_check.specs.declared.log_check.Stage.{Stage}
use Rattle.repl_check.specs.declared.log_check.Stage.TheVariants as stage
use Rattle.repl_check.specs.Fits.{HasBadRecord, HasBadRest, IsBefore, IsFirst, IsOrigin, rest_of}

-- ---- stages

-- it is in the rest of an earlier record, and goes on with the next page
pub record InRest (ident : Ident) (timeline : ℕ → ℕ) (rest floor : ℕ) (log : List ℕ) (r : Rest) : Type 0 where
  pub some : 0 < rest
  pub of_log : rest_identity r ≡ ident
  pub begun : IsRestBegun ident timeline rest floor log
  pub passed : IsPage (floor + length log) → HasPassed r timeline rest floor log

-- it is in records, and a walker went through them
pub record InRecords (ident : Ident) (timeline : ℕ → ℕ) (rest floor : ℕ) (log : List ℕ) (start : ℕ) (w : Walker) : Type 0 where
  pub first : IsFirst ident timeline rest floor log start
  pub of_log : identity w ≡ ident
  pub prev : ℕ
  pub before : IsBefore ident floor prev
  pub walked : HasWalked w timeline start prev (drop (start - floor) log)

-- the walker went through more records, after some record
pub record HasWalkedOn (ident : Ident) (timeline : ℕ → ℕ) (floor start : ℕ) (log : List ℕ) (w : Walker) : Type 0 where
  pub prev : ℕ
  pub before : IsBefore ident floor prev
  pub walked : HasWalked w timeline start prev log

-- it met what is no record
pub record HasStopped (ident : Ident) (timeline : ℕ → ℕ) (floor start : ℕ) (log : List ℕ) (w : Walker) (at : ℕ) (reason : WalkReason) : Type 0
  where
    pub prev : ℕ
    pub before : IsBefore ident floor prev
    pub refused : HasRefused w timeline start prev log at reason
    pub unlike : ¬ IsOrigin ident floor → last_end w ≡ start → (found expected : ℕ) → reason ≢ why.Prev found expected

-- what each stage says of the bytes, after so many of an earlier record
abbrev pub IsAtStage : Ident → (ℕ → ℕ) → ℕ → ℕ → List ℕ → Stage → Type 0
IsAtStage ident timeline rest floor log (stage.InRest r) = InRest ident timeline rest floor log r
IsAtStage ident timeline rest floor log (stage.BadRest fault) = HasBadRest ident timeline rest floor log fault.at fault.why
IsAtStage ident timeline rest floor log (stage.InRecords start w) = InRecords ident timeline rest floor log start w
IsAtStage ident timeline rest floor log (stage.BadRecord start end last fault) =
    HasBadRecord ident timeline rest floor log start end last fault.at fault.why

-- where it goes on
abbrev pub IsPlaced : Stage → ℕ → Type 0
IsPlaced (stage.InRest r) at = rest_position r ≡ at
IsPlaced (stage.BadRest fault) at = Unit {0}
IsPlaced (stage.InRecords start w) at = position w ≡ at
IsPlaced (stage.BadRecord start end last fault) at = Unit {0}

-- ---- the whole

-- the identity of the log
abbrev pub check_identity : LogCheck → Ident
check_identity check = check.ident

-- where the log begins
abbrev pub check_floor : LogCheck → ℕ
check_floor check = check.floor

-- the position of the next byte
abbrev pub check_position : LogCheck → ℕ
check_position check = check.at

-- these bytes were taken, from the floor on
pub record HasJudged (check : LogCheck) (timeline : ℕ → ℕ) (floor : ℕ) (log : List ℕ) : Type 0 where
  pub size : IsSegSize check.ident.size
  pub on_page : IsPage floor
  pub begins : check.floor ≡ floor
  pub past : check.at ≡ floor + length log
  pub at_stage : IsAtStage check.ident timeline (rest_of check.ident floor log) floor log check.stage

-- it has taken some log, whose pages are on these timelines
pub record HasTaken (check : LogCheck) (timeline : ℕ → ℕ) : Type 0 where
  pub floor : ℕ
  pub log : List ℕ
  pub judged : HasJudged check timeline floor log

abbrev pub IsJudging : LogCheck → Type 0
IsJudging check = (timeline : ℕ → ℕ) × HasTaken check timeline
