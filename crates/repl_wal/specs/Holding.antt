-- How a log's state, its memory and the files of its disk hang together.
use Rattle.std.specs.Prelude.{◌≡◌, ◌+◌, ◌-◌, ◌⊎◌, Bool, true, false, length, take, Option, Some, None, Result, Ok, Err}
use Rattle.repl_control.specs.declared.control.Role.TheVariants.{Primary}
use Rattle.repl_effects.specs.Counts.{Rose}
use Rattle.repl_disk.specs.State.{DiskState}
use Rattle.repl_walk.specs.Walks.{HasWalked}
use Rattle.repl_record.specs.declared.walker.Walker.{Walker}
use Rattle.repl_record.specs.Log.{IsWholeEnd}
use Rattle.repl_record.specs.Walker.{identity, last_end}
use Rattle.repl_store.specs.Backing.{Backs, LeavesOne}
use Rattle.repl_store.specs.Durable.{Durable}
use Rattle.repl_store.specs.Head.{Head, Held}
use Rattle.repl_store.specs.declared.store.StoreStatus.{StoreStatus}
use Rattle.repl_wal.specs.State.{LogState, flushed_end, floor_of, ident_of, last_start, path_of, role_of, status_of_log, tail_of, timeline_of, whole_end, written_end}
use Rattle.repl_wal.specs.declared.fault.NodeFault.{NodeFault}
use Rattle.repl_wal.specs.declared.fault.NodeFault.TheVariants as fault

-- what a log has in memory, beside its disk
pub record LogMemory : Type 0 where
  -- what the store has
  pub head : Head
  -- a call of the disk failed since the store was mounted
  pub failed : Bool
  -- it has gone through the log from the whole end on
  pub walker : Walker
  -- a call of the disk failed, and this was the log before it
  pub stopped : Option StoreStatus

-- a log, as contracts see it
pub record HeldLog (D : Type 0) : Type 0 where
  pub disk : D
  pub log : LogMemory

-- the log over another disk
abbrev pub with_disk : {D : Type 0} → HeldLog D → D → HeldLog D
with_disk held disk = record held { disk = disk }

-- what a log has in memory over this store, with this walker, where this is remembered
abbrev pub memory_of : {D : Type 0} → Held D → Walker → Option StoreStatus → LogMemory
memory_of store walker stopped = record { head = store.head; failed = store.broken; walker = walker; stopped = stopped }

-- and the log itself
abbrev pub held_of : {D : Type 0} → Held D → Walker → Option StoreStatus → HeldLog D
held_of store walker stopped = record { disk = store.disk; log = memory_of store walker stopped }

-- its store
abbrev pub store_of : {D : Type 0} → HeldLog D → Held D
store_of held = record { disk = held.disk; head = held.log.head; broken = held.log.failed }

-- the store and the walker in memory are those of this log
pub record Runs (head : Head) (w : Walker) (n : LogState) : Type 0 where
  pub size : head.size ≡ n.size
  pub control : head.control ≡ n.kept.durable.control
  pub path : head.path ≡ n.kept.durable.path
  pub written : head.written ≡ written_end n
  pub counted : floor_of n + length n.kept.durable.bytes ≡ flushed_end n
  pub of_log : identity w ≡ ident_of n
  pub walked : HasWalked w (timeline_of n) (whole_end n) (last_start n) (tail_of n)
  pub unended : IsWholeEnd (ident_of n) (timeline_of n) (whole_end n) (last_start n) (take (flushed_end n - whole_end n) (tail_of n))
      (whole_end n) (last_start n)
  pub primary : role_of n ≡ Primary → last_end w ≡ written_end n

-- no call of the disk failed, and it runs; or one did, and what was before it is remembered
abbrev pub Remembers : LogMemory → LogState → Type 0
Remembers memory n = ((memory.stopped ≡ None) × (n.broken ≡ false) × (memory.failed ≡ false) × Runs memory.head memory.walker n)
    ⊎ ((memory.stopped ≡ Some (status_of_log n)) × (n.broken ≡ true) × (memory.head.path ≡ path_of n))

-- The log is in this state: in memory, and, where the disk is known to tell it, in its files. After a failure of the disk
-- nothing is said of them.
pub record Holds (disk : DiskState) (memory : LogMemory) (n : LogState) : Type 0 where
  pub remembers : Remembers memory n
  pub backs : n.told ≡ true → n.broken ≡ false → Backs disk memory.head n.kept

-- What a call comes to: the log goes to a next state, a crash in the call leaves one of a column's, and a failure is
-- answered only where the disk counted one, or, where its files are not known, a lack.
pub record Comes {A : Type 0} (result : Result A NodeFault) (old new : DiskState) (memory : LogMemory) (n : LogState)
    (Next : LogState → Type 0) (column : Durable → Type 0) : Type 0 where
  pub next : LogState
  pub is : Next next
  pub holds : Holds new memory next
  pub moments : n.told ≡ true → n.broken ≡ false → LeavesOne old new n.size column
  pub failed : result ≡ Err fault.DiskFault → Rose old.faults new.faults ⊎ ((n.told ≡ false) × Rose old.lacks new.lacks)

-- ---- what each call says of a log

-- From each state that the log may be in, the call comes to a next state of these, and a crash in it leaves one of the
-- column's. `state` says what a disk is in.
abbrev pub Calls : {A D : Type 0} → (D → DiskState) → HeldLog D → HeldLog D → Result A NodeFault → (LogState → LogState → Type 0)
    → (LogState → Durable → Type 0) → Type 0
Calls state old new result Next column = (n : LogState) → Holds (state old.disk) old.log n
    → Comes result (state old.disk) (state new.disk) new.log n (Next n) (column n)

-- a log that answers that it is broken makes no call of the disk
abbrev pub IsIdle : {A D : Type 0} → Result A NodeFault → HeldLog D → HeldLog D → Type 0
IsIdle result old new = result ≡ Err fault.Broken → new.disk ≡ old.disk

-- the disk after a call that makes a log of it, or hands it back
abbrev pub disk_after : {D E : Type 0} → Result (HeldLog D) (E × D) → D
disk_after (Ok wal) = wal.disk
disk_after (Err e) = e.1

-- and what it answers, without the disk
abbrev pub answer_after : {D E : Type 0} → Result (HeldLog D) (E × D) → Result (HeldLog D) E
answer_after (Ok wal) = Ok wal
answer_after (Err e) = Err e.0
