-- Writing into the log: a primary appends records, a standby receives bytes, and both flush (PostgreSQL 17 manual, sections
-- "WAL Internals" and "Log-Shipping Standby Servers").
use Rattle.std.specs.Prelude.{◌≡◌, ◌≢◌, ℕ, ◌+◌, ◌^◌, ◌<◌, ◌≤◌, List, ◌++◌, length, Result}
use Rattle.repl_control.specs.declared.control.Role.TheVariants.{Primary, Standby}
use Rattle.repl_walk.specs.Faults.{HasFault}
use Rattle.repl_record.specs.declared.record.RecordIn.{RecordIn}
use Rattle.repl_record.specs.declared.record.TheConstants.{BODY_LIMIT}
use Rattle.repl_record.specs.Length.{image_end}
use Rattle.repl_record.specs.Record.{HeadersAreSpelled, IsImage, total_length}
use Rattle.repl_store.specs.Durable.{Durable}
use Rattle.repl_store.specs.declared.store.StoreStatus.{StoreStatus}
use Rattle.repl_wal.specs.State.{AreRecordsOn, EndsLast, EndsRecord, LogState, appended_log, flushed_log, ident_of, last_start, own_timeline, role_of, tail_of, timeline_of, whole_end, written_end}
use Rattle.repl_wal.specs.Steps.{Never, Only, OldOr, Step}
use Rattle.repl_wal.specs.declared.fault.NodeFault.{NodeFault}
use Rattle.repl_wal.specs.declared.fault.NodeFault.TheVariants as fault

-- the log ends at most here
abbrev pub LOG_LIMIT : ℕ
LOG_LIMIT = 2 ^ 62

-- ---- append

-- where the record would end
abbrev pub append_end : LogState → RecordIn → ℕ
append_end n item = image_end n.size (written_end n) (length item.body)

abbrev pub IsAppendRefusal : LogState → RecordIn → NodeFault → Type 0
IsAppendRefusal n item fault.NotPrimary = role_of n ≡ Standby
IsAppendRefusal n item (fault.TooLong len) = (role_of n ≡ Primary) × (BODY_LIMIT < length item.body) × (len ≡ length item.body)
IsAppendRefusal n item fault.LogFull = (role_of n ≡ Primary) × (length item.body ≤ BODY_LIMIT) × (LOG_LIMIT < append_end n item)
IsAppendRefusal n item e = ⊥

-- the same of what a log tells, for want of memory too
abbrev pub IsUnlaid : StoreStatus → RecordIn → NodeFault → Type 0
IsUnlaid status item fault.Memory = Unit {0}
IsUnlaid status item (fault.TooLong len) = (BODY_LIMIT < length item.body) × (len ≡ length item.body)
IsUnlaid status item fault.LogFull = (length item.body ≤ BODY_LIMIT) × (LOG_LIMIT < image_end status.ident.size status.written (length item.body))
IsUnlaid status item e = ⊥

abbrev pub CanAppend : LogState → RecordIn → Type 0
CanAppend n item = (role_of n ≡ Primary) × (length item.body ≤ BODY_LIMIT) × (append_end n item ≤ LOG_LIMIT)

-- The record's image, with its headers in their one spelling, is added at the written end, past the record that ends there.
pub record IsAppended (n : LogState) (item : RecordIn) (end : ℕ) (m : LogState) : Type 0 where
  pub bytes : List ℕ
  pub last : ℕ
  pub past : EndsRecord n (written_end n) last
  pub image : IsImage (ident_of n) (timeline_of n) (written_end n) last item bytes
  pub spelled : HeadersAreSpelled (ident_of n) (timeline_of n) (total_length item) (written_end n) bytes
  pub ends : end ≡ written_end n + length bytes
  pub becomes : m ≡ appended_log n bytes

abbrev pub Appends : LogState → RecordIn → Result ℕ NodeFault → LogState → Type 0
Appends n item result m = Step (IsAppendRefusal n item) (CanAppend n item) (IsAppended n item) (Only n) n result m

-- ---- receive

-- these bytes of this timeline, from this position on, go on with the log
pub record GoesOn (n : LogState) (tli start : ℕ) : Type 0 where
  pub standby : role_of n ≡ Standby
  pub own : tli ≡ own_timeline n
  pub at_end : start ≡ written_end n

-- what is no record in the log or in these bytes after it
abbrev pub HasFaultWith : LogState → List ℕ → NodeFault → Type 0
HasFaultWith n bytes (fault.BadRecord at why) = HasFault (ident_of n) (timeline_of n) (whole_end n) (last_start n) (tail_of n ++ bytes) at why
HasFaultWith n bytes e = ⊥

abbrev pub IsReceiveRefusal : LogState → ℕ → ℕ → List ℕ → NodeFault → Type 0
IsReceiveRefusal n tli start bytes fault.NotStandby = role_of n ≡ Primary
IsReceiveRefusal n tli start bytes (fault.WrongTimeline own) = (role_of n ≡ Standby) × (tli ≢ own_timeline n) × (own ≡ own_timeline n)
IsReceiveRefusal n tli start bytes (fault.NotAtEnd end) = (role_of n ≡ Standby) × (tli ≡ own_timeline n) × (start ≢ written_end n)
    × (end ≡ written_end n)
IsReceiveRefusal n tli start bytes fault.LogFull = GoesOn n tli start × (LOG_LIMIT < start + length bytes)
IsReceiveRefusal n tli start bytes (fault.BadRecord at why) = GoesOn n tli start × (start + length bytes ≤ LOG_LIMIT)
    × HasFaultWith n bytes (fault.BadRecord at why)
IsReceiveRefusal n tli start bytes e = ⊥

abbrev pub CanReceive : LogState → ℕ → ℕ → List ℕ → Type 0
CanReceive n tli start bytes = GoesOn n tli start × (start + length bytes ≤ LOG_LIMIT) × AreRecordsOn n bytes

-- the bytes are added
abbrev pub IsReceived : LogState → List ℕ → ℕ → LogState → Type 0
IsReceived n bytes end m = (end ≡ written_end m) × (m ≡ appended_log n bytes)

abbrev pub Receives : LogState → ℕ → ℕ → List ℕ → Result ℕ NodeFault → LogState → Type 0
Receives n tli start bytes result m = Step (IsReceiveRefusal n tli start bytes) (CanReceive n tli start bytes) (IsReceived n bytes) (Only n) n
    result m

-- ---- flush

-- all written bytes are flushed, and the whole end is the greatest record end among them
abbrev pub IsFlushed : LogState → ℕ → LogState → Type 0
IsFlushed n end m = (end ≡ written_end n) × ((whole : ℕ) × (last : ℕ) × EndsLast n whole last × (m ≡ flushed_log n (role_of n) whole last))

abbrev pub Flushes : LogState → Result ℕ NodeFault → LogState → Type 0
Flushes n result m = Step Never (Unit {0}) (IsFlushed n) (Only n) n result m

abbrev pub FlushLeaves : LogState → Durable → Type 0
FlushLeaves n d = OldOr n (IsFlushed n) d

-- ---- demote

-- all is flushed, and the log is a standby's
abbrev pub IsDemoted : LogState → Unit {0} → LogState → Type 0
IsDemoted n done m = (whole : ℕ) × (last : ℕ) × EndsLast n whole last × (m ≡ flushed_log n Standby whole last)

abbrev pub IsDemoteRefusal : LogState → NodeFault → Type 0
IsDemoteRefusal n fault.NotPrimary = role_of n ≡ Standby
IsDemoteRefusal n e = ⊥

abbrev pub Demotes : LogState → Result (Unit {0}) NodeFault → LogState → Type 0
Demotes n result m = Step (IsDemoteRefusal n) (role_of n ≡ Primary) (IsDemoted n) (Only n) n result m

abbrev pub DemoteLeaves : LogState → Durable → Type 0
DemoteLeaves n d = OldOr n (IsDemoted n) d
