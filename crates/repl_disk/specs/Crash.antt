-- What a crash may leave (PostgreSQL 17 manual, section "Reliability"). A write that is not synced may leave anything in its
-- range and past the file's old end, and no other byte is touched. A file that a write made may be gone, name and all,
-- until it is synced. A rename or a remove happens as a whole, and for good once it is done. A call that failed may have
-- happened or not.
use Rattle.std.specs.Prelude.{◌≡◌, ◌≢◌, ℕ, ◌+◌, ◌<◌, ◌≤◌, ◌⊎◌, max, List, length, get_or, Option, Some, None}
use Rattle.repl_disk.specs.Folder.{Folder, put, moved}
use Rattle.repl_disk.specs.State.{DiskState}

-- ---- what calls do to an image, which is what a crash leaves

-- bytes outside the range and before the old end stay, and the file ends where it did, or up to the range's end
pub record Torn (at count : ℕ) (old new : List ℕ) : Type 0 where
  pub outside : (i : ℕ) → i < length old → (i < at) ⊎ (at + count ≤ i) → get_or new i 0 ≡ get_or old i 0
  pub no_shorter : length old ≤ length new
  pub no_longer : length new ≤ max (length old) (at + count)

-- a file that is not there may be made, with any bytes up to the range's end
abbrev pub TornFile : ℕ → ℕ → Option (List ℕ) → Option (List ℕ) → Type 0
TornFile at count None None = Unit {0}
TornFile at count None (Some new) = length new ≤ at + count
TornFile at count (Some old) None = ⊥
TornFile at count (Some old) (Some new) = Torn at count old new

-- a write of so many bytes at this place
pub record Tears (name : List ℕ) (at count : ℕ) (old new : Folder) : Type 0 where
  pub others : (other : List ℕ) → other ≢ name → new other ≡ old other
  pub file : TornFile at count (old name) (new name)

-- a sync: the file is as it reads
abbrev pub Syncs : List ℕ → Option (List ℕ) → Folder → Folder → Type 0
Syncs name file old new = new ≡ put old name file

abbrev pub Moves : List ℕ → List ℕ → Folder → Folder → Type 0
Moves from to old new = new ≡ moved old from to

abbrev pub Removes : List ℕ → Folder → Folder → Type 0
Removes name old new = new ≡ put old name None

-- one side or the other
abbrev pub Either : (Folder → Folder → Type 0) → Folder → Folder → Type 0
Either step old new = (new ≡ old) ⊎ step old new

-- ---- sets of images

-- each new image is an old one after the step
abbrev pub Follows : (Folder → Folder → Type 0) → (Folder → Type 0) → (Folder → Type 0) → Type 0
Follows step old new = (image : Folder) → new image → (before : Folder) × old before × step before image

-- no image is new
abbrev pub NoneNew : (Folder → Type 0) → (Folder → Type 0) → Type 0
NoneNew old new = (image : Folder) → new image → old image

-- Time goes on: a crash since a moment might have left what it might have left before, or what it may leave now.
pub record Elapses (old new : DiskState) : Type 0 where
  pub later : old.moment ≤ new.moment
  pub nothing_else : (t : ℕ) (image : Folder) → t ≤ old.moment → new.left_since t image → old.left_since t image ⊎ new.may_leave image
  pub keeps : (t : ℕ) (image : Folder) → t ≤ old.moment → old.left_since t image → new.left_since t image

-- a crash at any moment since the old state leaves an image that has P
pub record LeavesOnly (old new : DiskState) (P : Folder → Type 0) : Type 0 where
  pub later : old.moment ≤ new.moment
  pub each : (image : Folder) → new.left_since old.moment image → P image
  -- of a run that began earlier
  pub before : (t : ℕ) (image : Folder) → t ≤ old.moment → new.left_since t image → old.left_since t image ⊎ P image
