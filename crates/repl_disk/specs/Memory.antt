-- A disk in memory: its files, and for each call since it was made how to take that back. Whatever a crash may leave, now
-- or at an earlier moment, is a matter of these. The calls stand in proofs alone: at run time it keeps its files.
use Rattle.std.specs.Prelude.{◌≡◌, ◌≢◌, ◌⊎◌, ◌↔◌, ◌^◌, ◌<◌, min, Bool, true, Contains, Result, IsErr, IfSome, ℕ, ◌+◌, ◌-◌, ◌≤◌, List, [], ◌∷◌, length, take, drop, Option, Some, None}
use Rattle.std.specs.Option.{option_map}
use Rattle.repl_disk.specs.Calls as done
use Rattle.repl_disk.specs.Calls.{Done}
use Rattle.repl_disk.specs.declared.disk.DiskError.{DiskError}
use Rattle.repl_disk.specs.declared.disk.DiskError.TheVariants as error
use Rattle.repl_disk.specs.Answers.{is_failed}
use Rattle.repl_disk.specs.Folder.{Folder, put, moved, content}
use Rattle.repl_disk.specs.Crash.{Tears, Syncs, Moves, Removes}
use Rattle.repl_disk.specs.Files.{folder_of, found}
use Rattle.repl_disk.specs.State.{DiskState}
use Rattle.repl_disk.specs.Tally.{raised}
use Rattle.repl_disk.specs.Stored.{Cut, Stored, unwritten}

-- ---- taking a call back

-- a file before a write: without an undo the write made it
abbrev pub file_before : Option Cut → Option (List ℕ) → Option (List ℕ)
file_before None now = None
file_before (Some undo) now = Some (unwritten undo (content now))

-- the files before a call, from those after it
abbrev pub before : Done → Folder → Folder
before (done.Wrote name at count undo) now = put now name (file_before undo (now name))
before (done.Synced name) now = now
before (done.Renamed from to taken) now = put (put now to taken) from (now to)
before (done.Removed name taken) now = put now name (Some taken)

-- the files before all these calls, of which the latest comes first
abbrev pub before_all : List Done → Folder → Folder
before_all [] now = now
before_all (call ∷ earlier) now = before_all earlier (before call now)

-- ---- images

-- what a call does to an image, where the files read so before it
abbrev pub Steps : Done → Folder → Folder → Folder → Type 0
Steps (done.Wrote name at count undo) folder old new = Tears name at count old new
Steps (done.Synced name) folder old new = Syncs name (folder name) old new
Steps (done.Renamed from to taken) folder old new = Moves from to old new
Steps (done.Removed name taken) folder old new = Removes name old new

-- What a crash may leave of files that read so now, after these calls, of which the latest comes first: the files as they
-- read, or what the last call makes of an image from before it.
abbrev pub IsImage : List Done → Folder → Folder → Type 0
IsImage [] now image = image ≡ now
IsImage (call ∷ earlier) now image = (image ≡ now) ⊎
    ((old : Folder) × IsImage earlier (before call now) old × Steps call (before call now) old image)

-- the same at some moment since so many calls were made
abbrev pub WasImage : List Done → Folder → ℕ → Folder → Type 0
WasImage calls now moment image = (later : ℕ) × (later + moment ≤ length calls) × IsImage (drop later calls)
    (before_all (take later calls) now) image

-- ---- what is certain

-- what is left where all is lost that was not synced
abbrev pub certain : List Done → Folder → Folder
certain [] now = now
certain (done.Wrote name at count undo ∷ earlier) now = certain earlier (before (done.Wrote name at count undo) now)
certain (done.Synced name ∷ earlier) now = put (certain earlier now) name (now name)
certain (done.Renamed from to taken ∷ earlier) now = moved (certain earlier (before (done.Renamed from to taken) now)) from to
certain (done.Removed name taken ∷ earlier) now = put (certain earlier (before (done.Removed name taken) now)) name None

-- ---- the disk

-- the files, and the calls that were done, of which the latest comes first
pub record Held : Type 0 where
  pub files : List Stored
  pub calls : List Done

-- A call that was done: what it made of the files, how that is taken back, and what a crash may leave after it of what one
-- might have left before it.
pub record Did (old new : Held) (effect : Folder → Folder) (step : Folder → Folder → Type 0) : Type 0 where
  pub call : Done
  pub kept : new.calls ≡ call ∷ old.calls
  pub files : folder_of new.files ≡ effect (folder_of old.files)
  pub back : before call (folder_of new.files) ≡ folder_of old.files
  pub now : step (folder_of old.files) (folder_of new.files)
  pub each : (past image : Folder) → Steps call (folder_of old.files) past image → step past image
  pub all : (past image : Folder) → step past image → Steps call (folder_of old.files) past image

-- a call that was not done: nothing changed, and where the name is said to be missing it is not there
pub record DidNot (old new : Held) (name : List ℕ) (e : DiskError) : Type 0 where
  pub unchanged : new ≡ old
  pub missing : e ≡ error.Missing → folder_of old.files name ≡ None
  pub never_failed : e ≢ error.Failed

-- what a disk in memory is seen as: its files, its calls, of which the latest comes first, and how it fails
pub record Memory : Type 0 where
  pub files : List Stored
  pub calls : List Done
  pub failing : List ℕ
  pub fuse : Option ℕ
  pub count : ℕ
  pub faults : ℕ
  pub wants : ℕ
  pub lacks : ℕ

-- nothing is kept of what was written into the file: no write can be taken back
abbrev pub KeepsNoWrite : List Stored → List ℕ → Type 0
KeepsNoWrite files name = IfSome (found files name) (λ file. file.undos ≡ [])

-- the files as they read
abbrev pub reading : Memory → Folder
reading m = folder_of m.files

abbrev pub LeavesNow : Memory → Folder → Type 0
LeavesNow m image = IsImage m.calls (reading m) image

abbrev pub LeftSince : Memory → ℕ → Folder → Type 0
LeftSince m moment image = WasImage m.calls (reading m) moment image

abbrev pub certain_files : Memory → Folder
certain_files m = certain m.calls (reading m)

-- the next call fails: its number is listed, or the fuse is burnt
abbrev pub IsDue : Memory → Type 0
IsDue m = Contains m.failing (m.count + 1) ⊎ (m.fuse ≡ Some 0)

-- a fuse after a call that passed
abbrev pub burnt : Option ℕ → Option ℕ
burnt None = None
burnt (Some k) = Some (k - 1)

-- with one call more counted, which burns the fuse, and a fault where it is due to fail
abbrev pub begun : Memory → Bool → Memory
begun m due = record {
  files = m.files;
  calls = m.calls;
  failing = m.failing;
  fuse = burnt m.fuse;
  count = min (m.count + 1) (2 ^ 64 - 1);
  faults = raised due m.faults;
  wants = m.wants;
  lacks = m.lacks;
}

-- what it tells and counts
abbrev pub state_of : Memory → DiskState
state_of m = record {
  files = Some (reading m);
  may_leave = LeavesNow m;
  moment = length m.calls;
  left_since = LeftSince m;
  faults = m.faults;
  wants = m.wants;
  lacks = m.lacks;
}

-- a call is counted, fails exactly where it is due, and has no effect where it answers an error
pub record Counts {A : Type 0} (old new : Memory) (result : Result A DiskError) : Type 0 where
  pub count : new.count ≡ min (old.count + 1) (2 ^ 64 - 1)
  pub failing : new.failing ≡ old.failing
  pub fuse : new.fuse ≡ burnt old.fuse
  pub due : (is_failed result ≡ true) ↔ IsDue old
  pub idle : IsErr result → (new.files ≡ old.files) × (new.calls ≡ old.calls)

-- none of the next so many calls is due to fail
pub record AllPass (m : Memory) (made : ℕ) : Type 0 where
  pub not_listed : (number : ℕ) → m.count < number → number ≤ m.count + made → Contains m.failing number → ⊥
  pub lasts : IfSome m.fuse (λ k. made ≤ k)

-- What calls keep of a disk in memory, whatever they did: the list of those that fail stays, the fuse is shorter by their
-- number, and no fault was counted where none of them was due to fail. The count of calls stops at 2 ^ 64 - 1.
pub record KeepsOn (old new : Memory) : Type 0 where
  pub made : ℕ
  pub count : (new.count ≡ old.count + made) ⊎ ((new.count < old.count + made) × (2 ^ 64 - 1 ≤ new.count))
  pub no_fewer : old.count ≤ new.count
  pub failing : new.failing ≡ old.failing
  pub fuse : new.fuse ≡ option_map (λ k. k - made) old.fuse
  pub passed : AllPass old made → new.faults ≡ old.faults
  pub faults : old.faults ≤ new.faults
  pub wants : old.wants ≤ new.wants
  pub lacks : old.lacks ≤ new.lacks

-- a disk that a crash left: what it reads is all that a further crash may leave, and nothing of its calls is kept
pub record Crashed (old new : Memory) (folder : Folder) : Type 0 where
  pub reads : reading new ≡ folder
  pub settled : new.calls ≡ []
  pub fails : (new.failing ≡ old.failing) × (new.fuse ≡ None) × (new.count ≡ old.count)
  pub counts : (new.faults ≡ old.faults) × (new.wants ≡ old.wants) × (new.lacks ≡ old.lacks)
