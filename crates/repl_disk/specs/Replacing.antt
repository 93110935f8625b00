-- Putting other bytes under a name, so that a crash leaves the old ones or the new. They are written under a second name
-- first, the temporary one.
use Rattle.std.specs.Prelude.{◌≡◌, ◌≢◌, ◌⊎◌, ℕ, List, ◌++◌, Some, None, codes}
use Rattle.repl_disk.specs.Crash.{LeavesOnly}
use Rattle.repl_disk.specs.Folder.{Folder, ToldFiles, put}
use Rattle.repl_disk.specs.State.{DiskState}

-- the temporary name, unless another is given
abbrev pub temporary : List ℕ → List ℕ
temporary name = name ++ codes ".tmp"

-- ---- a file aside

-- the image is one from before, but for this file
pub record IsAside (old : Folder → Type 0) (name : List ℕ) (image : Folder) : Type 0 where
  pub before : Folder
  pub was : old before
  pub others : (other : List ℕ) → other ≢ name → image other ≡ before other

-- each image is so, and has these bytes in the file
abbrev pub HasAside : (Folder → Type 0) → (Folder → Type 0) → List ℕ → List ℕ → Type 0
HasAside old new name bytes = (image : Folder) → new image → IsAside old name image × (image name ≡ Some bytes)

-- the files read so, where they are told
abbrev pub IsHalfAside : ToldFiles → ToldFiles → List ℕ → Type 0
IsHalfAside None now name = now ≡ None
IsHalfAside (Some folder) now name = (after : Folder) × (now ≡ Some after) × IsAside (λ f. f ≡ folder) name after

-- A crash at any moment of a run leaves what one before it might have left, but for this file, and the files read as they
-- did, but for this file.
pub record IsUntouched (old new : DiskState) (name : List ℕ) : Type 0 where
  pub any_moment : LeavesOnly old new (IsAside old.may_leave name)
  pub now : (image : Folder) → new.may_leave image → IsAside old.may_leave name image
  pub files : IsHalfAside old.files new.files name

-- ---- a file replaced

-- the image is one from before, but for the temporary name, and for these bytes under the name itself, if they are there
pub record IsBeforeOrAfter (old : Folder → Type 0) (name aside bytes : List ℕ) (image : Folder) : Type 0 where
  pub before : Folder
  pub was : old before
  pub others : (other : List ℕ) → other ≢ name → other ≢ aside → image other ≡ before other
  pub file : (image name ≡ before name) ⊎ (image name ≡ Some bytes)

-- the same with these bytes
pub record IsAfter (old : Folder → Type 0) (name aside bytes : List ℕ) (image : Folder) : Type 0 where
  pub before : Folder
  pub was : old before
  pub others : (other : List ℕ) → other ≢ name → other ≢ aside → image other ≡ before other
  pub file : image name ≡ Some bytes

-- the files as they read afterwards
abbrev pub replaced : Folder → List ℕ → List ℕ → List ℕ → Folder
replaced folder name aside bytes = put (put folder aside None) name (Some bytes)

-- the files read so as an image may be, where they are told
abbrev pub IsHalfDone : ToldFiles → ToldFiles → List ℕ → List ℕ → List ℕ → Type 0
IsHalfDone None now name aside bytes = now ≡ None
IsHalfDone (Some folder) now name aside bytes = (after : Folder) × (now ≡ Some after) × IsBeforeOrAfter
    (λ f. f ≡ folder) name aside bytes after
