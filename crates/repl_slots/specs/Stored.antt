-- What a disk stores of slots, and what saving and mounting them answers.
use Rattle.std.specs.Prelude.{◌≡◌, ◌≢◌, ◌⊎◌, ℕ, true, false, List, [], map, codes, Option, Some, None, Result, Ok, Err, All}
use Rattle.repl_effects.specs.Counts.{Rose, Stood}
use Rattle.repl_disk.specs.declared.disk.DiskError.{DiskError}
use Rattle.repl_disk.specs.declared.disk.DiskError.TheVariants as error
use Rattle.repl_disk.specs.Crash.{LeavesOnly}
use Rattle.repl_disk.specs.Folder.{Folder}
use Rattle.repl_disk.specs.State.{DiskState}
use Rattle.repl_slots.specs.Slot.{SlotList, having, settled}
use Rattle.repl_slots.specs.SlotFile.{Entry, FileStops, IsMounted, Spells, entries_of, file_bytes}
use Rattle.repl_slots.specs.declared.slot.Slot.{Slot}
use Rattle.repl_slots.specs.declared.fault.SlotFault.{SlotFault}
use Rattle.repl_slots.specs.declared.fault.SlotFault.TheVariants as fault

-- ---- what is stored

abbrev pub slots_name : List ℕ
slots_name = codes "slots"

-- the name under which the file is written first
abbrev pub aside_name : List ℕ
aside_name = codes "slots.tmp"

-- the file, if there is one, spells these slots; where there is none, there are no slots
abbrev pub StoredIn : List Entry → Option (List ℕ) → Type 0
StoredIn entries None = entries ≡ []
StoredIn entries (Some file) = Spells entries file

abbrev pub Stores : List Entry → Folder → Type 0
Stores entries folder = StoredIn entries (folder slots_name)

-- Where every image stored the same slots, every image since then stores them or these.
abbrev pub StoresThrough : DiskState → DiskState → List Entry → Type 0
StoresThrough old new entries = (before : List Entry) → ((image : Folder) → old.may_leave image → Stores before image)
    → LeavesOnly old new (λ image. Stores before image ⊎ Stores entries image)

-- the file of these slots
abbrev pub file_of : List Slot → List ℕ
file_of slots = file_bytes (entries_of slots)

-- ---- answers

-- what a disk's error is to whoever saves or mounts slots
abbrev pub fault_of : DiskError → SlotFault
fault_of error.Missing = fault.DiskFault
fault_of error.Failed = fault.DiskFault
fault_of error.Memory = fault.Memory

-- The restart positions were saved; or nothing was done, since a disk fault came since the slots were mounted; or a disk fault
-- came now; or there was no memory.
abbrev pub Saved : {A : Type 0} → SlotList → SlotList → Result A SlotFault → Type 0
Saved old new (Ok x) = (old.broken ≡ false) × (new ≡ having old (map settled old.slots))
Saved old new (Err fault.Broken) = (old.broken ≡ true) × (new ≡ old)
Saved old new (Err fault.DiskFault) = (old.broken ≡ false) × (new ≡ record { slots = old.slots; broken = true })
Saved old new (Err fault.Memory) = (old.broken ≡ false) × (new ≡ old)
Saved old new (Err fault.BadName) = ⊥
Saved old new (Err fault.Duplicate) = ⊥
Saved old new (Err (fault.Full limit)) = ⊥
Saved old new (Err fault.NoSlot) = ⊥
Saved old new (Err (fault.InUse session)) = ⊥
Saved old new (Err (fault.BadSlots place)) = ⊥

-- These slots are stored, or the file is wrong there. The disk's own faults and want of memory have their causes in its counts.
abbrev pub Mounted : Folder → Result SlotList SlotFault → Type 0
Mounted folder (Ok list) = (list.broken ≡ false) × All IsMounted list.slots × Stores (entries_of list.slots) folder
Mounted folder (Err (fault.BadSlots place)) = (file : List ℕ) × (folder slots_name ≡ Some file) × FileStops file place
Mounted folder (Err fault.DiskFault) = Unit {0}
Mounted folder (Err fault.Memory) = Unit {0}
Mounted folder (Err fault.Broken) = ⊥
Mounted folder (Err fault.BadName) = ⊥
Mounted folder (Err fault.Duplicate) = ⊥
Mounted folder (Err (fault.Full limit)) = ⊥
Mounted folder (Err fault.NoSlot) = ⊥
Mounted folder (Err (fault.InUse session)) = ⊥

-- ---- causes

-- A disk fault is answered only where the disk counted one, or, over a disk that does not tell its files, a missing file. Another
-- answer passes over none, and where memory is not wanting the disk did not want any.
pub record IsCaused {A : Type 0} (result : Result A SlotFault) (old new : DiskState) : Type 0 where
  pub disk : result ≡ Err fault.DiskFault → Rose old.faults new.faults ⊎ ((old.files ≡ None) × Rose old.lacks new.lacks)
  pub faults : result ≢ Err fault.DiskFault → Stood old.faults new.faults
  pub wants : result ≢ Err fault.Memory → Stood old.wants new.wants
