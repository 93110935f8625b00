-- How each task ends.
use Rattle.std.specs.Prelude.{◌≡◌, ◌⊎◌, ℕ, List, Bool, true, false}
use Rattle.repl_control.specs.declared.control.TheConstants.{VERSION_1_SIZE}
use Rattle.repl_filter.specs.declared.conversion.Converted.{Converted}
use Rattle.repl_filter.specs.declared.conversion.Converted.TheVariants as converted
use Rattle.repl_effects.specs.Counts.{Rose, RoseExactly, Stood}
use Rattle.repl_disk.specs.State.{DiskState}
use Rattle.repl_identify.specs.Identify.{Identified}
use Rattle.repl_io.specs.Source.{SourceState}
use Rattle.repl_io.specs.Sink.{SinkState}
use Rattle.repl_print.specs.Frames.{Framed}
use Rattle.repl_print.specs.Names.{Named}
use Rattle.repl_print.specs.Histories.{Historied}
use Rattle.repl_exit.specs.declared.status.Status.{Status}
use Rattle.repl_exit.specs.declared.status.Status.TheVariants as status
use Rattle.repl_admin.specs.declared.tended.Tended.{Tended}
use Rattle.repl_admin.specs.declared.tended.Tended.TheVariants as tended
use Rattle.repl_admin.specs.Checking.{Checked}
use Rattle.repl_admin.specs.Tending.{Initiated, Stated}
use Rattle.repl_top.specs.declared.task.Task.{Task}
use Rattle.repl_top.specs.declared.task.Task.TheVariants as task
use Rattle.repl_top.specs.Words.{IsTask}

-- ---- statuses

-- of a command that answers its input
abbrev pub status_of_converted : Converted → Status
status_of_converted converted.Done = status.Ok
status_of_converted (converted.Refused place) = status.BadInput place
status_of_converted converted.ReadFault = status.ReadFault
status_of_converted converted.WriteFault = status.WriteFault
status_of_converted converted.TurnsSpent = status.TurnsSpent
status_of_converted converted.Memory = status.Memory

-- of a command on a store
abbrev pub status_of_tended : Tended → Status
status_of_tended tended.Done = status.Ok
status_of_tended (tended.Damaged name place why) = status.Damaged name place why
status_of_tended tended.Exists = status.Exists
status_of_tended tended.DiskFault = status.DiskFault
status_of_tended tended.WriteFault = status.WriteFault
status_of_tended tended.Memory = status.Memory

-- ---- tasks, by what the source, the sink and the disk tell before and after them. `Unread` says that the source is as it
-- was, and `Same` that the disk is.

-- a command that answers its input ended so
abbrev pub Converts : Status → (Converted → Type 0) → Type 0
Converts end Ended = (e : Converted) × (end ≡ status_of_converted e) × Ended e

-- a command on a store ended so
abbrev pub Tends : Status → (Tended → Type 0) → Type 0
Tends end Ended = (e : Tended) × (end ≡ status_of_tended e) × Ended e

abbrev pub Ends : Task → Status → Type 0 → Type 0 → SourceState → SourceState → SinkState → SinkState → DiskState → DiskState → Type 0
Ends (task.Identify identity) end Unread Same r r' w w' d d' = Converts end (λ e. Identified identity e r r' w w') × Same
Ends (task.Frames side) end Unread Same r r' w w' d d' = Converts end (λ e. Framed side e r r' w w') × Same
Ends (task.Names text) end Unread Same r r' w w' d d' = Converts end (λ e. Named text.now e w w') × Unread × Same
Ends (task.History own) end Unread Same r r' w w' d d' = Converts end (λ e. Historied own e r r' w w') × Same
Ends (task.Init role sysid magic) end Unread Same r r' w w' d d' =
    Tends end (λ e. Initiated role (record { sysid = sysid; magic = magic; size = VERSION_1_SIZE }) e d d' w w') × Unread
Ends task.Status end Unread Same r r' w w' d d' = Tends end (λ e. Stated e d d' w w') × Unread
Ends task.Check end Unread Same r r' w w' d d' = Tends end (λ e. Checked e d d' w w') × Unread

-- the words ask for something, and that ended so
abbrev pub Did : List (List ℕ) → Status → Type 0 → Type 0 → SourceState → SourceState → SinkState → SinkState → DiskState → DiskState → Type 0
Did words end Unread Same r r' w w' d d' = (t : Task) × IsTask words t × Ends t end Unread Same r r' w w' d d'

-- ---- faults

abbrev pub is_read_fault : Status → Bool
is_read_fault status.ReadFault = true
is_read_fault status.Ok = false
is_read_fault (status.Usage word) = false
is_read_fault (status.BadInput place) = false
is_read_fault status.WriteFault = false
is_read_fault status.DiskFault = false
is_read_fault (status.Damaged name place why) = false
is_read_fault status.TurnsSpent = false
is_read_fault status.Memory = false
is_read_fault status.Exists = false

abbrev pub is_write_fault : Status → Bool
is_write_fault status.WriteFault = true
is_write_fault status.Ok = false
is_write_fault (status.Usage word) = false
is_write_fault (status.BadInput place) = false
is_write_fault status.ReadFault = false
is_write_fault status.DiskFault = false
is_write_fault (status.Damaged name place why) = false
is_write_fault status.TurnsSpent = false
is_write_fault status.Memory = false
is_write_fault status.Exists = false

-- Faults are told exactly where an object counted one. A disk that does not tell its files may count a lack in place of one.
pub record TellsFaults (end : Status) (r r' : SourceState) (w w' : SinkState) (d d' : DiskState) : Type 0 where
  pub reading : RoseExactly (is_read_fault end) r.faults r'.faults
  pub writing : RoseExactly (is_write_fault end) w.faults w'.faults
  pub disk : end ≡ status.DiskFault → Rose d.faults d'.faults ⊎ Rose d.lacks d'.lacks
  pub calm : (end ≡ status.DiskFault) ⊎ Stood d.faults d'.faults
