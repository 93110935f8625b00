-- What each event makes of a hub, and what is replied: one case an event.
use Rattle.std.specs.Prelude.{◌≡◌, filter, length, Err}
use Rattle.repl_hub.specs.Log.{IsAppend, IsDemote, IsFlush, IsFollow, IsHistory, IsPromote, IsRead, IsReceive, IsTrim}
use Rattle.repl_hub.specs.Sessions.{IsConnect, IsDisconnect, IsFeedback, IsReport, IsStopStreaming, IsStreaming}
use Rattle.repl_hub.specs.Slots.{IsSlotAcquire, IsSlotConfirm, IsSlotCreate, IsSlotDrop, IsSlotRelease, IsSlotSave, slot_place}
use Rattle.repl_hub.specs.State.{HubView}
use Rattle.repl_hub.specs.Waits.{IsCancel, IsLook, IsNames, IsPrepare, IsSetNames, IsStop, IsWait}
use Rattle.repl_hub.specs.declared.event.HubEvent.{HubEvent}
use Rattle.repl_hub.specs.declared.event.HubEvent.TheVariants as event
use Rattle.repl_hub.specs.declared.reply.HubReply.{HubReply}
use Rattle.repl_hub.specs.declared.reply.HubReply.TheVariants as reply
use Rattle.repl_hub.specs.declared.reply.HubStatus.{HubStatus}
use Rattle.repl_slots.specs.declared.fault.SlotFault.TheVariants as slot
use Rattle.repl_wal.specs.State.{identity_in, status_of_log}
use Rattle.repl_wal.specs.declared.fault.NodeFault.TheVariants as fault

-- what a `Status` tells
abbrev pub status_of_hub : HubView → HubStatus
status_of_hub h = record {
  identity = identity_in (status_of_log h.node.log);
  streaming = length (filter (λ session. session.streaming) h.sync.sessions);
  stopped = h.stopped;
}

-- the reply is of this kind, with a value that fits
abbrev pub Replies : {A : Type 0} → HubReply → (A → HubReply) → (A → Type 0) → Type 0
Replies {A} r kind Fits = (a : A) × (r ≡ kind a) × Fits a

-- From a hub the event comes to this reply and to that hub.
abbrev pub HubStep : HubView → HubEvent → HubReply → HubView → Type 0
HubStep h event.Identify r m = (r ≡ reply.Identify (identity_in (status_of_log h.node.log))) × (m ≡ h)
HubStep h (event.History tli) r m = Replies r reply.History (λ result. IsHistory h tli result m)
HubStep h (event.Read tli at most) r m = Replies r reply.Read (λ result. IsRead h tli at most result m)
HubStep h (event.Append item) r m = Replies r reply.Append (λ result. IsAppend h item result m)
HubStep h event.Flush r m = Replies r reply.Flush (λ result. IsFlush h result m)
HubStep h (event.Receive tli start bytes) r m = Replies r reply.Receive (λ result. IsReceive h tli start bytes result m)
HubStep h (event.Follow child) r m = Replies r reply.Follow (λ result. IsFollow h child result m)
HubStep h (event.Promote at_least) r m = Replies r reply.Promote (λ result. IsPromote h at_least result m)
HubStep h event.Demote r m = Replies r reply.Demote (λ result. IsDemote h result m)
HubStep h (event.Trim keep) r m = Replies r reply.Trim (λ result. IsTrim h keep result m)
HubStep h event.Status r m = (r ≡ reply.Status (status_of_hub h)) × (m ≡ h)
HubStep h (event.SlotCreate session name temporary reserve) r m =
    Replies r reply.SlotCreate (λ result. IsSlotCreate h session name temporary reserve result m)
HubStep h (event.SlotDrop session name) r m = Replies r reply.SlotDrop (λ result. IsSlotDrop h session name result m)
HubStep h (event.SlotRead name) r m = (r ≡ reply.SlotRead (slot_place h name)) × (m ≡ h)
HubStep h (event.SlotAcquire session name) r m = Replies r reply.SlotAcquire (λ result. IsSlotAcquire h session name result m)
HubStep h (event.SlotRelease session) r m = (r ≡ reply.SlotRelease) × IsSlotRelease h session m
HubStep h (event.SlotConfirm session at) r m = (r ≡ reply.SlotConfirm) × IsSlotConfirm h session at m
HubStep h event.SlotSave r m = Replies r reply.SlotSave (λ result. IsSlotSave h result m)
HubStep h (event.Connect name replication) r m = Replies r reply.Connect (λ result. IsConnect h name replication result m)
HubStep h (event.Streaming session tli) r m = Replies r reply.Streaming (λ result. IsStreaming h session tli result m)
HubStep h (event.StopStreaming session) r m = Replies r reply.StopStreaming (λ result. IsStopStreaming h session result m)
HubStep h (event.Report session written flushed applied) r m =
    Replies r reply.Report (λ result. IsReport h session written flushed applied result m)
HubStep h (event.Feedback session value) r m = Replies r reply.Feedback (λ result. IsFeedback h session value result m)
HubStep h (event.Disconnect session) r m = Replies r reply.Disconnect (λ result. IsDisconnect h session result m)
HubStep h (event.SetNames list) r m = Replies r reply.SetNames (λ result. IsSetNames h list result m)
HubStep h event.Prepare r m = Replies r reply.Prepare (λ result. IsPrepare h result m)
HubStep h (event.Wait ticket end mode) r m = Replies r reply.Wait (λ result. IsWait h ticket end mode result m)
HubStep h (event.Look ticket) r m = Replies r reply.Look (λ answer. IsLook h ticket answer m)
HubStep h (event.Cancel ticket) r m = Replies r reply.Cancel (λ result. IsCancel h ticket result m)
HubStep h event.Names r m = Replies r reply.Names (λ result. IsNames h result × (m ≡ h))
HubStep h event.Stop r m = (r ≡ reply.Stop) × IsStop h m

-- the reply tells that a call of the disk failed
abbrev pub TellsFailure : HubReply → Type 0
TellsFailure (reply.History result) = result ≡ Err fault.DiskFault
TellsFailure (reply.Read result) = result ≡ Err fault.DiskFault
TellsFailure (reply.Append result) = result ≡ Err fault.DiskFault
TellsFailure (reply.Flush result) = result ≡ Err fault.DiskFault
TellsFailure (reply.Receive result) = result ≡ Err fault.DiskFault
TellsFailure (reply.Follow result) = result ≡ Err fault.DiskFault
TellsFailure (reply.Promote result) = result ≡ Err fault.DiskFault
TellsFailure (reply.Demote result) = result ≡ Err fault.DiskFault
TellsFailure (reply.Trim result) = result ≡ Err fault.DiskFault
TellsFailure (reply.SlotSave result) = result ≡ Err slot.DiskFault
TellsFailure other = ⊥
