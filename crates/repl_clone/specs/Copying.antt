-- How a copy is made: file by file, of which the control is the last.
use Rattle.std.specs.Prelude.{◌≡◌, ◌≢◌, ◌⊎◌, ℕ, ◌-◌, List, ◌++◌, codes, length, take, drop, Option, Some}
use Rattle.repl_disk.specs.Crash.{LeavesOnly}
use Rattle.repl_disk.specs.Folder.{Folder, content}
use Rattle.repl_disk.specs.State.{DiskState}
use Rattle.repl_lsn.specs.History.{Path, SaysHistory}
use Rattle.repl_lsn.specs.Segment.{Fits, history_name}
use Rattle.repl_store.specs.Backing.{State, log}
use Rattle.repl_store.specs.Durable.{Carries, Durable, IsKnown, StandsFor, control_aside, control_name, segment_file}
use Rattle.repl_clone.specs.Copied.{copied}

-- ---- files that change

-- the image is one from before, but for files of these names
pub record IsBeside (names : List ℕ → Type 0) (old : Folder → Type 0) (image : Folder) : Type 0 where
  pub before : Folder
  pub was : old before
  pub others : (other : List ℕ) → (names other → ⊥) → image other ≡ before other

-- A crash at any moment of a run leaves what one before it might have left, but for files of these names, and the files read
-- as they did, but for those.
pub record ChangesOnly (names : List ℕ → Type 0) (old new : DiskState) (folder : Folder) : Type 0 where
  pub moments : LeavesOnly old new (IsBeside names old.may_leave)
  pub now : (image : Folder) → new.may_leave image → IsBeside names old.may_leave image
  pub after : Folder
  pub told : new.files ≡ Some after
  pub others : (other : List ℕ) → (names other → ⊥) → after other ≡ folder other

-- a timeline's history, and the temporary name under which it is written
abbrev pub OfHistory : ℕ → List ℕ → Type 0
OfHistory tli name = (name ≡ history_name tli) ⊎ (name ≡ history_name tli ++ codes ".tmp")

abbrev pub OfControl : List ℕ → Type 0
OfControl name = (name ≡ control_name) ⊎ (name ≡ control_aside)

abbrev pub OfSegment : ℕ → Path → List ℕ → Type 0
OfSegment size path name = (segment : ℕ) × Fits size segment × (name ≡ segment_file size path segment)

-- ---- what is copied

-- the path's history is there, unless it is that of timeline 1
abbrev pub HasHistory : Path → Folder → Type 0
HasHistory path image = path.own ≢ 1 → (text : List ℕ) × (image (history_name path.own) ≡ Some text) × SaysHistory text path

-- the log between two positions
abbrev pub log_part : ℕ → State → ℕ → ℕ → List ℕ
log_part floor s from to = take (to - from) (drop (from - floor) (log s))

-- the file begins with these bytes
abbrev pub Begins : List ℕ → Option (List ℕ) → Type 0
Begins bytes file = take (length bytes) (content file) ≡ bytes

-- the folder has the log up to this position
abbrev pub HasLog : ℕ → Path → ℕ → State → ℕ → Folder → Type 0
HasLog size path floor s to image = Carries size image path floor (take (to - floor) s.durable.bytes)

-- the image stands for the copy, which has heard of the timelines that one from before had heard of
pub record IsCopyOf (old : Folder → Type 0) (size : ℕ) (d : Durable) (image : Folder) : Type 0 where
  pub before : Folder
  pub was : old before
  pub stands : (known : ℕ) → IsKnown before d.control.tli known → StandsFor size image (copied d known)
