-- What each event comes to: one case an event.
use Rattle.std.proofs.Common.{◌≡◌, ◌≢◌, ℕ, min, [], ◌∷◌, ◌++◌, map, Result}
use Rattle.repl_control.specs.declared.control.Role.TheVariants.{Primary, Standby}
use Rattle.repl_hub.specs.Log.{IsLogRead, ReadsLog, TellsHistory}
use Rattle.repl_hub.specs.Slots.{reserved}
use Rattle.repl_hub.specs.State.{HubView}
use Rattle.repl_hub.specs.Step.{HubStep}
use Rattle.repl_hub.specs.declared.event.HubEvent.{HubEvent}
use Rattle.repl_hub.specs.declared.event.HubEvent.TheVariants as event
use Rattle.repl_hub.specs.declared.reply.HubReply.{HubReply}
use Rattle.repl_hub.proofs.Coming.{Comes, of_connect, of_demote, of_disconnect, of_log, of_rising, of_saves, of_slots, of_slotted, of_stop, of_streaming, of_switch, of_sync, of_wait, stays}
use Rattle.repl_hub.proofs.Logs.{Rises, append_rises, past, demote_rises, flush_rises, follow_partly_rises, follow_switches, promote_partly_rises, promote_switches, receive_rises, rises_broken, rises_only, rises_same, trim_partly_rises, trim_rises}
use Rattle.repl_node.specs.Keeping.{IsTrimmedNode}
use Rattle.repl_node.specs.State.{NodeState}
use Rattle.repl_slots.specs.Slot.{acquired, confirmed, made, released, without}
use Rattle.repl_sync.specs.Sync as sync
use Rattle.repl_wal.specs.Following.{CanFollow, IsFollowRefusal, IsFollowed, PartlyFollows}
use Rattle.repl_wal.specs.Keeping.{IsTrimmed, PartlyTrims}
use Rattle.repl_wal.specs.Promoting.{IsPromoteRefusal, IsPromoted, PartlyPromotes}
use Rattle.repl_wal.specs.Reading.{CanRead, IsReadRefusal}
use Rattle.repl_wal.specs.State.{LogState, flushed_end, path_of, role_of}
use Rattle.repl_wal.specs.Steps.{Never, Only, Step}
use Rattle.repl_wal.specs.Telling.{IsHistoryOf, IsHistoryRefusal}
use Rattle.repl_wal.specs.Writing.{Appends, Flushes, Receives, CanAppend, CanReceive, IsAppendRefusal, IsAppended, IsDemoteRefusal, IsDemoted, IsFlushed, IsReceiveRefusal, IsReceived}
use Rattle.repl_wal.specs.declared.fault.NodeFault.{NodeFault}

-- a call of the log that keeps its role and lowers no flushed end
rising : {A : Type 0} (Refuses : NodeFault → Type 0) (Passes : Type 0) (Done : A → LogState → Type 0) (Partly : LogState → Type 0) (n m : LogState)
    (result : Result A NodeFault) → (Partly m → Rises n m) → ((a : A) → Done a m → Rises n m)
    → Step Refuses Passes Done Partly n result m → Rises n m
rising Refuses Passes Done Partly n m result partly done step =
    past Refuses Passes Done Partly n m (Rises n) (rises_same n) (rises_broken n) partly result done step

-- a call that only reads
reading : {A : Type 0} (Refuses : NodeFault → Type 0) (Passes : Type 0) (Answers : A → Type 0) (n m : LogState) (result : Result A NodeFault)
    → Step Refuses Passes (λ a k. Answers a × (k ≡ n)) (Only n) n result m → Rises n m
reading {A} Refuses Passes Answers n m result step =
    let Done : A → LogState → Type 0 = λ a k. Answers a × (k ≡ n) in
    rising Refuses Passes Done (Only n) n m result (rises_only n m) (λ a done. rises_only n m done.1) step

trimming : (n : NodeState) (keep : ℕ) (result : Result ℕ NodeFault) (m : NodeState) → IsTrimmedNode n keep result m → Rises n.log m.log
trimming n keep result m is =
    rising Never (Unit {0}) (IsTrimmed n.log is.least keep) (PartlyTrims n.log is.least keep) n.log m.log result
    (trim_partly_rises n.log is.least keep m.log) (λ floor done. trim_rises n.log is.least keep floor m.log done) is.trimmed

pub comes : (h : HubView) (event : HubEvent) (reply : HubReply) (m : HubView) → HubStep h event reply m → Comes h event m
comes h event.Identify reply m step = stays h event.Identify m step.1
comes h (event.History tli) reply m step =
    of_log h (event.History tli) m (TellsHistory h.node.log tli step.0)
    (λ log. reading (IsHistoryRefusal (path_of h.node.log) tli) (tli ≢ 1) (IsHistoryOf (path_of h.node.log) tli) h.node.log log step.0) step.2
comes h (event.Read tli at most) reply m step =
    of_log h (event.Read tli at most) m (ReadsLog h.node.log tli at most step.0)
    (λ log. reading (IsReadRefusal h.node.log tli at) (CanRead h.node.log tli at) (IsLogRead h.node.log tli at most) h.node.log log step.0) step.2
comes h (event.Append item) reply m step =
    let n = h.node.log in
    of_log h (event.Append item) m (Appends n item step.0)
    (λ log. rising (IsAppendRefusal n item) (CanAppend n item) (IsAppended n item) (Only n) n log step.0 (rises_only n log)
    (λ end done. append_rises n item end log done)) step.2
comes h event.Flush reply m step =
    let n = h.node.log in
    of_log h event.Flush m (Flushes n step.0)
    (λ log. rising Never (Unit {0}) (IsFlushed n) (Only n) n log step.0 (rises_only n log) (λ end done. flush_rises n end log done)) step.2
comes h (event.Receive tli start bytes) reply m step =
    let n = h.node.log in
    of_log h (event.Receive tli start bytes) m (Receives n tli start bytes step.0)
    (λ log. rising (IsReceiveRefusal n tli start bytes) (CanReceive n tli start bytes) (IsReceived n bytes) (Only n) n log step.0
    (rises_only n log) (λ end done. receive_rises n bytes end log done)) step.2
comes h (event.Follow child) reply m step =
    let n = h.node.log in
    of_switch h (event.Follow child) (IsFollowRefusal n child) (CanFollow n child) (IsFollowed n child) (PartlyFollows n child) step.0 m tt
    (follow_partly_rises n child) (λ a log can done. follow_switches n child log can done) step.2
comes h (event.Promote at_least) reply m step =
    let n = h.node.log in
    of_switch h (event.Promote at_least) (IsPromoteRefusal n at_least) (role_of n ≡ Standby) (IsPromoted n at_least) (PartlyPromotes n at_least)
    step.0 m tt (promote_partly_rises n at_least) (λ a log can done. promote_switches n at_least a log done) step.2
comes h event.Demote reply m step =
    let n = h.node.log in
    of_demote h event.Demote (IsDemoteRefusal n) (role_of n ≡ Primary) (IsDemoted n) (Only n) step.0 m (rises_only n)
    (λ a log done. demote_rises n log done) step.2
comes h (event.Trim keep) reply m step =
    of_rising h (event.Trim keep) step.2.0 m (trimming h.node keep step.0 step.2.0 step.2.1) step.2.2
comes h event.Status reply m step = stays h event.Status m step.1
comes h (event.SlotCreate session name temporary reserve) reply m step =
    of_slots h (event.SlotCreate session name temporary reserve) m (h.node.slots ++ made name temporary session (reserved h reserve) ∷ []) step.0
    step.2.1
comes h (event.SlotDrop session name) reply m step =
    of_slots h (event.SlotDrop session name) m (without name h.node.slots) step.0 step.2.1
comes h (event.SlotRead name) reply m step = stays h (event.SlotRead name) m step.1
comes h (event.SlotAcquire session name) reply m step =
    of_slots h (event.SlotAcquire session name) m (map (acquired name session) h.node.slots) step.0 step.2.1
comes h (event.SlotRelease session) reply m step =
    of_slotted h (event.SlotRelease session) m (map (released session) h.node.slots) step.1
comes h (event.SlotConfirm session at) reply m step =
    of_slotted h (event.SlotConfirm session at) m (map (confirmed session (min at (flushed_end h.node.log))) h.node.slots) step.1
comes h event.SlotSave reply m step = of_saves h event.SlotSave m step.0 step.2
comes h (event.Connect name replication) reply m step = of_connect h (event.Connect name replication) m name replication step.0 step.2
comes h (event.Streaming session tli) reply m step = of_streaming h (event.Streaming session tli) m session tli step.0 step.2
comes h (event.StopStreaming session) reply m step =
    of_sync h (event.StopStreaming session) m (sync.StopStreaming session) (sync.done step.0) tt step.2
comes h (event.Report session written flushed applied) reply m step =
    let end = flushed_end h.node.log in
    of_sync h (event.Report session written flushed applied) m (sync.Report session (min written end) (min flushed end) (min applied end))
    (sync.done step.0) tt step.2
comes h (event.Feedback session value) reply m step =
    of_sync h (event.Feedback session value) m (sync.Feedback session value) (sync.done step.0) tt step.2
comes h (event.Disconnect session) reply m step = of_disconnect h (event.Disconnect session) m session step.0 step.2
comes h (event.SetNames list) reply m step = of_sync h (event.SetNames list) m (sync.SetNames list) (sync.stored step.0) tt step.2
comes h event.Prepare reply m step = of_sync h event.Prepare m sync.Prepare (sync.given step.0) tt step.2
comes h (event.Wait ticket end mode) reply m step = of_wait h (event.Wait ticket end mode) m ticket end mode step.0 step.2
comes h (event.Look ticket) reply m step = of_sync h (event.Look ticket) m (sync.ToLook ticket) (sync.Looked step.0) tt step.2
comes h (event.Cancel ticket) reply m step = of_sync h (event.Cancel ticket) m (sync.Cancel ticket) (sync.done step.0) tt step.2
comes h event.Names reply m step = stays h event.Names m step.2.1
comes h event.Stop reply m step = of_stop h event.Stop m step.1
