-- What the answers of a disk's calls say of its files.
use Rattle.std.specs.Prelude.{◌≡◌, ℕ, ◌⊎◌, Bool, true, false, nat_lt, List, None, IsSome, Result, Ok, Err}
use Rattle.repl_disk.specs.declared.disk.DiskError.{DiskError}
use Rattle.repl_disk.specs.declared.disk.DiskError.TheVariants as error
use Rattle.repl_effects.specs.Counts.{Rose, RoseExactly}
use Rattle.repl_disk.specs.Crash.{Either, Elapses, Follows, NoneNew}
use Rattle.repl_disk.specs.Folder.{Folder, ToldFiles, IfTold, Became, Stayed, put, moved, written}
use Rattle.repl_disk.specs.State.{DiskState}

abbrev pub is_fault : DiskError → Bool
is_fault error.Missing = false
is_fault error.Failed = true
is_fault error.Memory = false

abbrev pub is_want : DiskError → Bool
is_want error.Missing = false
is_want error.Failed = false
is_want error.Memory = true

abbrev pub is_lack : DiskError → Bool
is_lack error.Missing = true
is_lack error.Failed = false
is_lack error.Memory = false

abbrev pub is_failed : {A : Type 0} → Result A DiskError → Bool
is_failed (Ok x) = false
is_failed (Err e) = is_fault e

abbrev pub is_memory : {A : Type 0} → Result A DiskError → Bool
is_memory (Ok x) = false
is_memory (Err e) = is_want e

abbrev pub is_missing : {A : Type 0} → Result A DiskError → Bool
is_missing (Ok x) = false
is_missing (Err e) = is_lack e

-- no file, or fewer bytes than there is room for
abbrev pub is_short : ℕ → Result ℕ DiskError → Bool
is_short room (Ok n) = nat_lt n room
is_short room (Err e) = is_lack e

-- the name is there where the call is done, and is not there where it is missing
abbrev pub OnlyWhereThere : {A : Type 0} → ToldFiles → List ℕ → Result A DiskError → Type 0
OnlyWhereThere told name (Ok x) = IfTold told (λ folder. IsSome (folder name))
OnlyWhereThere told name (Err error.Missing) = IfTold told (λ folder. folder name ≡ None)
OnlyWhereThere told name (Err error.Failed) = Unit {0}
OnlyWhereThere told name (Err error.Memory) = Unit {0}

abbrev pub NeverMissing : {A : Type 0} → Result A DiskError → Type 0
NeverMissing (Ok x) = Unit {0}
NeverMissing (Err error.Missing) = ⊥
NeverMissing (Err error.Failed) = Unit {0}
NeverMissing (Err error.Memory) = Unit {0}

abbrev pub NeverWants : {A : Type 0} → Result A DiskError → Type 0
NeverWants (Ok x) = Unit {0}
NeverWants (Err error.Missing) = Unit {0}
NeverWants (Err error.Failed) = Unit {0}
NeverWants (Err error.Memory) = ⊥

-- The files are as the effect makes them where the call is done, as they were where the name is missing or there was no
-- memory, and one or the other where the call failed.
abbrev pub Does : {A : Type 0} → Result A DiskError → ToldFiles → ToldFiles → (Folder → Folder) → Type 0
Does (Ok x) before now effect = Became before now effect
Does (Err error.Missing) before now effect = Stayed before now
Does (Err error.Failed) before now effect = Stayed before now ⊎ Became before now effect
Does (Err error.Memory) before now effect = Stayed before now

abbrev pub Wrote : {A : Type 0} → Result A DiskError → ToldFiles → ToldFiles → List ℕ → ℕ → List ℕ → Type 0
Wrote result before now name at bytes = Does result before now (λ folder. written folder name at bytes)

abbrev pub Moved : {A : Type 0} → Result A DiskError → ToldFiles → ToldFiles → List ℕ → List ℕ → Type 0
Moved result before now from to = Does result before now (λ folder. moved folder from to)

abbrev pub Removed : {A : Type 0} → Result A DiskError → ToldFiles → ToldFiles → List ℕ → Type 0
Removed result before now name = Does result before now (λ folder. put folder name None)

-- What a crash may leave after the step where the call is done, what it might have left where the name is missing or there
-- was no memory, and one or the other where the call failed.
abbrev pub Leaves : {A : Type 0} → Result A DiskError → (Folder → Folder → Type 0) → (Folder → Type 0) → (Folder → Type 0) → Type 0
Leaves (Ok x) step old new = Follows step old new
Leaves (Err error.Missing) step old new = NoneNew old new
Leaves (Err error.Failed) step old new = Follows (Either step) old new
Leaves (Err error.Memory) step old new = NoneNew old new

-- All that the step makes of an image is left where the call is done, and all that might have been where it failed.
abbrev pub LeavesAll : {A : Type 0} → Result A DiskError → (Folder → Folder → Type 0) → (Folder → Type 0) → (Folder → Type 0) → Type 0
LeavesAll (Ok x) step old new = (past image : Folder) → old past → step past image → new image
LeavesAll (Err e) step old new = NoneNew new old

-- ---- how a call ends

-- Time went on, and each count rose exactly where its test holds.
pub record Counted (failed wanted lacked : Bool) (old new : DiskState) : Type 0 where
  pub time : Elapses old new
  pub faults : RoseExactly failed old.faults new.faults
  pub wants : RoseExactly wanted old.wants new.wants
  pub lacks : RoseExactly lacked old.lacks new.lacks

-- each error is counted, and no other event
abbrev pub Ends : {A : Type 0} → Result A DiskError → DiskState → DiskState → Type 0
Ends result old new = Counted (is_failed result) (is_memory result) (is_missing result) old new

-- the same of a call that reads into so much room, where fewer bytes are a lack too
abbrev pub EndsRead : ℕ → Result ℕ DiskError → DiskState → DiskState → Type 0
EndsRead room result old new = Counted (is_failed result) (is_memory result) (is_short room result) old new

-- The answer of some calls has its cause: a fault or a want is answered exactly where one was counted, and a missing file
-- only where a lack was.
pub record Caused {A : Type 0} (result : Result A DiskError) (old new : DiskState) : Type 0 where
  pub faults : RoseExactly (is_failed result) old.faults new.faults
  pub wants : RoseExactly (is_memory result) old.wants new.wants
  pub missing : result ≡ Err error.Missing → Rose old.lacks new.lacks
