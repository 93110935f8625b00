-- The files that stand beside a store's in one folder and are none of its: what its calls leave of them, and what others
-- may do to the folder while the store has it.
use Rattle.std.specs.Prelude.{◌≡◌, ℕ, ◌⊎◌, List, Some, codes}
use Rattle.repl_disk.specs.Crash.{LeavesOnly}
use Rattle.repl_disk.specs.Folder.{Folder, IfTold}
use Rattle.repl_disk.specs.State.{DiskState}

-- The files of a folder that are none of a store's: those of the slots, which stand beside it.
abbrev pub IsApart : List ℕ → Type 0
IsApart name = (name ≡ codes "slots") ⊎ (name ≡ codes "slots.tmp")

-- ---- what a store does with them

-- both folders have the same of these files
abbrev pub SameApart : Folder → Folder → Type 0
SameApart old new = (name : List ℕ) → IsApart name → new name ≡ old name

-- an image has of these files what one of those has
abbrev pub IsLikeOne : (Folder → Type 0) → Folder → Type 0
IsLikeOne images image = (before : Folder) × images before × SameApart before image

-- The files that are none of a store's read as they did, and a crash at any moment leaves of them what one before might
-- have left.
pub record StaysApart (old new : DiskState) : Type 0 where
  pub files : IfTold old.files (λ folder. (after : Folder) × (new.files ≡ Some after) × SameApart folder after)
  pub now : IfTold old.files (λ folder. (image : Folder) → new.may_leave image → IsLikeOne old.may_leave image)
  pub moments : IfTold old.files (λ folder. LeavesOnly old new (IsLikeOne old.may_leave))

-- ---- what others do with the rest

-- both folders have the same of all other files
abbrev pub SameButApart : Folder → Folder → Type 0
SameButApart old new = (name : List ℕ) → (IsApart name → ⊥) → new name ≡ old name

-- an image has of all other files what one of those has
abbrev pub IsOneButApart : (Folder → Type 0) → Folder → Type 0
IsOneButApart images image = (before : Folder) × images before × SameButApart before image

-- Only files that are none of a store's changed, and a crash at any moment leaves of all others what one before might have
-- left.
pub record OnlyApart (old new : DiskState) : Type 0 where
  pub files : IfTold old.files (λ folder. (after : Folder) × (new.files ≡ Some after) × SameButApart folder after)
  pub now : IfTold old.files (λ folder. (image : Folder) → new.may_leave image → IsOneButApart old.may_leave image)
  pub moments : IfTold old.files (λ folder. LeavesOnly old new (IsOneButApart old.may_leave))
