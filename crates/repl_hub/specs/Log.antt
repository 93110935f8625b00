-- Events that are calls of the node on its log. Formats of what is read are those of START_REPLICATION and TIMELINE_HISTORY
-- (PostgreSQL 17 manual, section "Streaming Replication Protocol").
use Rattle.std.specs.Prelude.{◌≡◌, ◌≢◌, ℕ, ◌-◌, ◌<◌, true, max, min, List, length, take, drop, Result, Ok, Err}
use Rattle.repl_hub.specs.State.{HubView, with_both, with_node}
use Rattle.repl_hub.specs.declared.reply.LogRead.{LogRead}
use Rattle.repl_hub.specs.declared.reply.LogRead.TheVariants as read
use Rattle.repl_hub.specs.declared.log.TheConstants.{READ_LIMIT}
use Rattle.repl_lsn.specs.History.{Path}
use Rattle.repl_lsn.specs.Path.{EndsAt, IsNext}
use Rattle.repl_node.specs.Keeping.{IsTrimmedNode}
use Rattle.repl_node.specs.State.{NodeState}
use Rattle.repl_node.specs.Steps.{OfLog}
use Rattle.repl_record.specs.declared.record.RecordIn.{RecordIn}
use Rattle.repl_store.specs.Backing.{log}
use Rattle.repl_sync.specs.State.{State}
use Rattle.repl_sync.specs.Sync as sync
use Rattle.repl_sync.specs.Sync.{SyncStep}
use Rattle.repl_wal.specs.Following.{Follows}
use Rattle.repl_wal.specs.Promoting.{Promotes}
use Rattle.repl_wal.specs.Reading.{CanRead, IsReadRefusal, ReadsTo, read_count}
use Rattle.repl_wal.specs.State.{LogState, floor_of, flushed_end, path_of}
use Rattle.repl_wal.specs.Steps.{Only, Step}
use Rattle.repl_wal.specs.Telling.{IsHistoryOf, IsHistoryRefusal}
use Rattle.repl_wal.specs.Writing.{Appends, Demotes, Flushes, Receives}
use Rattle.repl_wal.specs.declared.fault.NodeFault.{NodeFault}
use Rattle.repl_wal.specs.declared.fault.NodeFault.TheVariants as fault
use Rattle.repl_wal.specs.declared.read.ReadOut.{ReadOut}
use Rattle.repl_wal.specs.declared.read.ReadOut.TheVariants as out

-- the event concerns the node alone
abbrev pub OfNode : HubView → (NodeState → Type 0) → HubView → Type 0
OfNode h Next m = (node : NodeState) × Next node × (m ≡ with_node h node)

-- ---- reading

-- of so many bytes, between 1 and as many as one reply carries
abbrev pub read_room : ℕ → ℕ
read_room most = min (max most 1) READ_LIMIT

-- What is read: the path's bytes from the position on, as many as there are on the timeline and as the room takes, which ends with
-- a page where there are more.
abbrev pub IsLogRead : LogState → ℕ → ℕ → ℕ → LogRead → Type 0
IsLogRead n tli at most (read.Bytes bytes) = ((end : ℕ) × ReadsTo n tli end × (at < end) × (length bytes ≡ read_count at end (read_room most)))
    × (n.told ≡ true → bytes ≡ take (length bytes) (drop (at - floor_of n) (log n.kept)))
IsLogRead n tli at most read.AtEnd = (tli ≡ (path_of n).own) × (at ≡ flushed_end n)
IsLogRead n tli at most (read.Ended next switch) = EndsAt (path_of n) tli switch × IsNext (path_of n) tli next × (at ≡ switch)

abbrev pub ReadsLog : LogState → ℕ → ℕ → ℕ → Result LogRead NodeFault → LogState → Type 0
ReadsLog n tli at most result m = Step (IsReadRefusal n tli at) (CanRead n tli at) (λ answer m. IsLogRead n tli at most answer × (m ≡ n))
    (Only n) n result m

abbrev pub TellsHistory : LogState → ℕ → Result (List ℕ) NodeFault → LogState → Type 0
TellsHistory n tli result m = Step (IsHistoryRefusal (path_of n) tli) (tli ≢ 1) (λ text m. IsHistoryOf (path_of n) tli text × (m ≡ n))
    (Only n) n result m

-- ---- changing

-- where the call is done, the sessions and tickets are told, and else they stay
abbrev pub Then : {A : Type 0} → Result A NodeFault → sync.Event → State → State → Type 0
Then (Ok a) event old new = SyncStep old event sync.Done new
Then (Err e) event old new = new ≡ old

-- so a call of the log tells them
abbrev pub OfBoth : {A : Type 0} → HubView → (LogState → Type 0) → Result A NodeFault → sync.Event → HubView → Type 0
OfBoth h Next result event m = (node : NodeState) × OfLog h.node Next node × ((told : State) × Then result event h.sync told
    × (m ≡ with_both h node told))

abbrev pub IsAppend : HubView → RecordIn → Result ℕ NodeFault → HubView → Type 0
IsAppend h item result m = OfNode h (OfLog h.node (Appends h.node.log item result)) m

abbrev pub IsFlush : HubView → Result ℕ NodeFault → HubView → Type 0
IsFlush h result m = OfNode h (OfLog h.node (Flushes h.node.log result)) m

abbrev pub IsReceive : HubView → ℕ → ℕ → List ℕ → Result ℕ NodeFault → HubView → Type 0
IsReceive h tli start bytes result m = OfNode h (OfLog h.node (Receives h.node.log tli start bytes result)) m

abbrev pub IsTrim : HubView → ℕ → Result ℕ NodeFault → HubView → Type 0
IsTrim h keep result m = OfNode h (IsTrimmedNode h.node keep result) m

abbrev pub IsRead : HubView → ℕ → ℕ → ℕ → Result LogRead NodeFault → HubView → Type 0
IsRead h tli at most result m = OfNode h (OfLog h.node (ReadsLog h.node.log tli at most result)) m

abbrev pub IsHistory : HubView → ℕ → Result (List ℕ) NodeFault → HubView → Type 0
IsHistory h tli result m = OfNode h (OfLog h.node (TellsHistory h.node.log tli result)) m

-- after another timeline no session streams, and no report counts
abbrev pub IsFollow : HubView → Path → Result (Unit {0}) NodeFault → HubView → Type 0
IsFollow h child result m = OfBoth h (Follows h.node.log child result) result sync.NewTimeline m

abbrev pub IsPromote : HubView → ℕ → Result (ℕ × ℕ) NodeFault → HubView → Type 0
IsPromote h at_least result m = OfBoth h (Promotes h.node.log at_least result) result sync.NewTimeline m

-- nobody waits on a standby
abbrev pub IsDemote : HubView → Result (Unit {0}) NodeFault → HubView → Type 0
IsDemote h result m = OfBoth h (Demotes h.node.log result) result sync.CancelAll m

-- ---- replies. Private clauses cite this.

-- the bytes are carried, or there is no memory
abbrev pub IsSharedOf : List ℕ → Result (List ℕ) NodeFault → Type 0
IsSharedOf text (Ok bytes) = bytes ≡ text
IsSharedOf text (Err e) = e ≡ fault.Memory

-- so is what was read into a room
abbrev pub IsCarried : ReadOut → List ℕ → Result LogRead NodeFault → Type 0
IsCarried (out.Bytes count) room (Ok answer) = answer ≡ read.Bytes (take count room)
IsCarried (out.Bytes count) room (Err e) = e ≡ fault.Memory
IsCarried out.AtEnd room result = result ≡ Ok read.AtEnd
IsCarried (out.Ended next switch) room result = result ≡ Ok (read.Ended next switch)
