-- What the files of a folder stand for beside a store: its slots, and what is flushed past its whole end (PostgreSQL 17
-- manual, sections "Replication Slots" and "WAL Internals"); and what a crash would leave of that.
use Rattle.std.specs.Prelude.{◌≡◌, ℕ, List, Some}
use Rattle.repl_control.specs.declared.control.Control.{Control}
use Rattle.repl_control.specs.declared.control.TheConstants.{VERSION_1_SIZE}
use Rattle.repl_disk.specs.Folder.{Folder}
use Rattle.repl_disk.specs.State.{DiskState}
use Rattle.repl_lsn.specs.Path.{timeline_at}
use Rattle.repl_record.specs.Log.{IsPrefixOfRecords, IsWholeEnd}
use Rattle.repl_slots.specs.SlotFile.{Entry, FileStops}
use Rattle.repl_slots.specs.Stored.{Stores, slots_name}
use Rattle.repl_store.specs.Durable.{Durable, StandsFor}
use Rattle.repl_store.specs.Refusal.{HasControl}
use Rattle.repl_wal.specs.Making.{flushed_tail, ident_in}

-- ---- slots

-- the file of the slots, if there is one, spells some
abbrev pub HasSlots : Folder → Type 0
HasSlots folder = (saved : List Entry) × Stores saved folder

-- the control is right, and the file of the slots goes wrong at this place
abbrev pub HasWrongSlots : Folder → ℕ → Type 0
HasWrongSlots folder place = ((control : Control) × HasControl VERSION_1_SIZE folder control)
    × ((file : List ℕ) × (folder slots_name ≡ Some file) × FileStops file place)

-- ---- past the whole end

-- what is flushed there is the beginning of a record, and none ends in it
pub record TailFits (d : Durable) : Type 0 where
  pub none : IsWholeEnd (ident_in VERSION_1_SIZE d) (timeline_at d.path) d.control.whole d.control.prev (flushed_tail d)
      d.control.whole d.control.prev
  pub begins : IsPrefixOfRecords (ident_in VERSION_1_SIZE d) (timeline_at d.path) d.control.whole d.control.prev (flushed_tail d)

-- ---- what a crash would leave

-- files that stand for what these do
abbrev pub IsSettled : DiskState → Folder → Type 0
IsSettled disk folder = (d : Durable) (image : Folder) → StandsFor VERSION_1_SIZE folder d → disk.may_leave image → StandsFor VERSION_1_SIZE image d

-- and that store the same slots
pub record AreSettled (disk : DiskState) (folder : Folder) : Type 0 where
  pub log : IsSettled disk folder
  pub slots : (saved : List Entry) (image : Folder) → Stores saved folder → disk.may_leave image → Stores saved image
