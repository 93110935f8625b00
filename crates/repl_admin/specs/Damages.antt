-- How a refusal and a flaw are told. There may be no memory for the name of the file.
use Rattle.std.specs.Prelude.{◌≡◌, ℕ, ◌%◌, ◌/◌, ◌⊎◌, List, Some, Err}
use Rattle.repl_control.specs.declared.control.TheConstants.{VERSION_1_SIZE}
use Rattle.repl_effects.specs.Counts.{Rose, Stood}
use Rattle.repl_disk.specs.Folder.{Folder, IfTold}
use Rattle.repl_disk.specs.State.{DiskState}
use Rattle.repl_lsn.specs.Segment.{history_name}
use Rattle.repl_node.specs.Making.{IsFirstRefusal, IsJudged, IsOfSlots}
use Rattle.repl_record.specs.declared.answer.WalkReason.{WalkReason}
use Rattle.repl_slots.specs.Stored.{slots_name}
use Rattle.repl_exit.specs.declared.damage.DamageReason.{DamageReason}
use Rattle.repl_exit.specs.declared.damage.DamageReason.TheVariants as damage
use Rattle.repl_store.specs.declared.fault.StoreFault.{StoreFault}
use Rattle.repl_store.specs.declared.fault.StoreFault.TheVariants as fault
use Rattle.repl_store.specs.Backing.{OnlyReads}
use Rattle.repl_store.specs.Durable.{Durable, StandsFor, control_name, segment_file}
use Rattle.repl_admin.specs.declared.tended.Tended.{Tended}
use Rattle.repl_admin.specs.declared.tended.Tended.TheVariants as tended
use Rattle.repl_admin.specs.Tending.{line_of}
use Rattle.repl_wal.specs.declared.fault.NodeFault.{NodeFault}
use Rattle.repl_wal.specs.declared.fault.NodeFault.TheVariants as node

-- this damage, unless there was no memory
abbrev pub IsDamagedOr : List ℕ → ℕ → DamageReason → Tended → Type 0
IsDamagedOr name place why end = (end ≡ tended.Damaged name place why) ⊎ (end ≡ tended.Memory)

-- where a call of a store was refused so
abbrev pub IsToldOf : StoreFault → Tended → Type 0
IsToldOf fault.Broken end = end ≡ tended.DiskFault
IsToldOf fault.Exists end = end ≡ tended.Exists
IsToldOf (fault.Missing name) end = end ≡ tended.Damaged name 0 damage.Missing
IsToldOf (fault.BadControl place) end = IsDamagedOr control_name place damage.Control end
IsToldOf (fault.BadHistory tli wrong) end = IsDamagedOr (history_name tli) (line_of wrong) (damage.History wrong) end
IsToldOf (fault.ShortFile name have wanted) end = end ≡ tended.Damaged name have damage.Short
IsToldOf fault.DiskFault end = end ≡ tended.DiskFault
IsToldOf fault.Memory end = end ≡ tended.Memory

-- Where a call of a node was refused so. Of those that are told as a failure of the disk no mount and no making answers another
-- than that, but for `Damaged`, which is told by the name of a segment.
abbrev pub IsToldOfNode : NodeFault → Tended → Type 0
IsToldOfNode node.Exists end = end ≡ tended.Exists
IsToldOfNode (node.Missing name) end = end ≡ tended.Damaged name 0 damage.Missing
IsToldOfNode (node.BadControl place) end = IsDamagedOr control_name place damage.Control end
IsToldOfNode (node.BadSlots place) end = IsDamagedOr slots_name place damage.Slots end
IsToldOfNode (node.BadHistory tli wrong) end = IsDamagedOr (history_name tli) (line_of wrong) (damage.History wrong) end
IsToldOfNode (node.ShortFile name have wanted) end = end ≡ tended.Damaged name have damage.Short
IsToldOfNode node.Memory end = end ≡ tended.Memory
IsToldOfNode e end = end ≡ tended.DiskFault

-- ---- the slots are wrong

-- the slots of a disk are refused, or its control before them, and that is told
pub record IsToldOfSlots (end : Tended) (old new : DiskState) : Type 0 where
  pub fault : NodeFault
  pub told : IsToldOfNode fault end
  pub refused : IfTold old.files (λ folder. IsFirstRefusal VERSION_1_SIZE folder fault)
  pub answers : IsOfSlots fault
  pub caused : IsJudged {A = Unit {0}} (Err fault) old new

-- ---- the log past the whole end is wrong

-- it is damage, or it could not be told
abbrev pub IsDamageOrFailure : Tended → Type 0
IsDamageOrFailure (tended.Damaged name place why) = Unit {0}
IsDamageOrFailure tended.DiskFault = Unit {0}
IsDamageOrFailure tended.Memory = Unit {0}
IsDamageOrFailure end = ⊥

-- The store is opened once more, for the name of the file in which the position is: where the files stand for one, that is told,
-- unless the disk failed or there was no memory.
pub record IsToldOfLog (at : ℕ) (why : WalkReason) (end : Tended) (old new : DiskState) : Type 0 where
  pub named : (folder : Folder) (d : Durable) → old.files ≡ Some folder → StandsFor VERSION_1_SIZE folder d
      → IsDamagedOr (segment_file VERSION_1_SIZE d.path (at / VERSION_1_SIZE)) (at % VERSION_1_SIZE) (damage.Bad why) end
      ⊎ ((end ≡ tended.DiskFault) × Rose old.faults new.faults)
  pub kind : IsDamageOrFailure end
  pub only : OnlyReads old new
  pub failed : end ≡ tended.DiskFault → Rose old.faults new.faults ⊎ Rose old.lacks new.lacks
  pub others : (end ≡ tended.DiskFault) ⊎ Stood old.faults new.faults

-- where a mount of a node was refused so; `Same` says that the disk is as it was
abbrev pub IsToldOfMount : NodeFault → Tended → Type 0 → DiskState → DiskState → Type 0
IsToldOfMount (node.Damaged at why) end Same old new = IsToldOfLog at why end old new
IsToldOfMount e end Same old new = IsToldOfNode e end × Same
