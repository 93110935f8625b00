-- What `check` does, by what the disk and the sink tell and count.
use Rattle.std.specs.Prelude.{◌≡◌, ℕ, ◌%◌, ◌/◌, ◌⊎◌, List, Some}
use Rattle.repl_check.specs.declared.check.CheckFault.{CheckFault}
use Rattle.repl_check.specs.declared.check.CheckFault.TheVariants as check
use Rattle.repl_check.specs.declared.flaw.Flaw.{Flaw}
use Rattle.repl_check.specs.declared.flaw.Flaw.TheVariants as flaw
use Rattle.repl_check.specs.Fits.{Fits}
use Rattle.repl_check.specs.Flaws.{IsFlaw}
use Rattle.repl_control.specs.declared.control.TheConstants.{VERSION_1_SIZE}
use Rattle.repl_effects.specs.Counts.{Rose}
use Rattle.repl_disk.specs.Folder.{Folder}
use Rattle.repl_disk.specs.State.{DiskState}
use Rattle.repl_io.specs.Sink.{SinkState}
use Rattle.repl_lsn.specs.History.{Path}
use Rattle.repl_lsn.specs.Path.{timeline_at}
use Rattle.repl_page.specs.declared.ident.Ident.{Ident}
use Rattle.repl_exit.specs.declared.damage.DamageReason.TheVariants as damage
use Rattle.repl_store.specs.Durable.{Durable, StandsFor, control_name, segment_file}
use Rattle.repl_slots.specs.Stored.{slots_name}
use Rattle.repl_admin.specs.Damages.{IsDamagedOr}
use Rattle.repl_admin.specs.Files.{HasSlots, HasWrongSlots, IsSettled}
use Rattle.repl_admin.specs.Lines.{check_lines}
use Rattle.repl_admin.specs.Tending.{Damage, Ends, IsCalm, IsDamaged, IsDone, TellsFaults, status_of}
use Rattle.repl_admin.specs.declared.tended.Tended.{Tended}
use Rattle.repl_admin.specs.declared.tended.Tended.TheVariants as tended
use Rattle.repl_wal.specs.State.{identity_in}

-- ---- the log

abbrev pub identity_of : Durable → Ident
identity_of d = record { sysid = d.control.sysid; magic = d.control.magic; size = VERSION_1_SIZE }

-- the log, from the floor to the flushed end, is what the control says
abbrev pub LogFits : Durable → Type 0
LogFits d = Fits (identity_of d) (timeline_at d.path) d.control.floor d.bytes d.control.whole d.control.prev

-- it has this flaw
abbrev pub LogHas : Durable → Flaw → Type 0
LogHas d wrong = IsFlaw (identity_of d) (timeline_at d.path) d.control.floor d.bytes d.control.whole d.control.prev wrong

-- ---- damage

-- what is told where the log has this flaw: the field of the control that is wrong, or the record or page
abbrev pub IsDamageAt : Durable → Flaw → Damage
IsDamageAt d flaw.Whole name place why = (name ≡ control_name) × (place ≡ 32) × (why ≡ damage.Control)
IsDamageAt d flaw.Last name place why = (name ≡ control_name) × (place ≡ 48) × (why ≡ damage.Control)
IsDamageAt d (flaw.Bad at reason) name place why = (name ≡ segment_file VERSION_1_SIZE d.path (at / VERSION_1_SIZE))
    × (place ≡ at % VERSION_1_SIZE) × (why ≡ damage.Bad reason)

-- where a check of the log of a store on this path answered so
abbrev pub IsToldAt : Path → CheckFault → Tended → Type 0
IsToldAt path check.Whole end = IsDamagedOr control_name 32 damage.Control end
IsToldAt path check.Last end = IsDamagedOr control_name 48 damage.Control end
IsToldAt path (check.Bad at reason) end =
    IsDamagedOr (segment_file VERSION_1_SIZE path (at / VERSION_1_SIZE)) (at % VERSION_1_SIZE) (damage.Bad reason) end
IsToldAt path check.Broken end = end ≡ tended.DiskFault
IsToldAt path check.DiskFault end = end ≡ tended.DiskFault
IsToldAt path check.Memory end = end ≡ tended.Memory

-- ---- the command

-- the files stand for slots and for a store, whose log fits
pub record FitsWhole (folder : Folder) (d : Durable) : Type 0 where
  pub stands : StandsFor VERSION_1_SIZE folder d
  pub slots : HasSlots folder
  pub fits : LogFits d

-- they do not, or the log of the store has a flaw, which is this damage
abbrev pub IsFlawed : Folder → Damage
IsFlawed folder name place why = IsDamaged folder name place why
    ⊎ ((d : Durable) × (wrong : Flaw) × StandsFor VERSION_1_SIZE folder d × HasSlots folder × LogHas d wrong × IsDamageAt d wrong name place why)

abbrev pub whole_lines : Durable → List ℕ
whole_lines d = check_lines (identity_in (status_of d))

-- What `check` does, where a crash would leave what the disk has: it prints that all fits, and the line of the store, or
-- tells the first that is wrong: of control, slots, history, segments, and then of the log.
pub record Checked (end : Tended) (old new : DiskState) (w w' : SinkState) : Type 0 where
  pub ends : (folder : Folder) → old.files ≡ Some folder → IsSettled old folder
      → Ends (FitsWhole folder) whole_lines ⊥ (IsFlawed folder) (Rose old.faults new.faults) end w w'
  pub faults : TellsFaults end old new w w'
  -- Unless an object is faulty or memory runs out, a store whose log fits is told to fit,
  pub complete : (folder : Folder) (d : Durable) → old.files ≡ Some folder → IsSettled old folder → FitsWhole folder d → IsCalm old new w w' → IsDone end
  -- and wrong slots are told.
  pub slots : (folder : Folder) (place : ℕ) → old.files ≡ Some folder → HasWrongSlots folder place → IsCalm old new w w'
      → (end ≡ tended.Damaged slots_name place damage.Slots) ⊎ (end ≡ tended.Memory)
