-- What each event comes to, as far as waits and the flushed end are concerned.
use Rattle.std.proofs.Common.{◌≡◌, ℕ, ◌≤◌, Bool, List, Result, Ok, Err, inl, inr, refl, sym, ap, ◌∙◌, subst}
use Rattle.repl_hub.specs.Certain.{IsCertain, IsSwitch}
use Rattle.repl_hub.specs.Log.{OfBoth, OfNode}
use Rattle.repl_hub.specs.Sessions.{IsConnect, IsDisconnect, IsStreaming, OfSync}
use Rattle.repl_hub.specs.State.{HubView, slotted, with_both, with_node}
use Rattle.repl_hub.specs.Waits.{IsStop, IsWait}
use Rattle.repl_hub.specs.declared.event.HubEvent.{HubEvent}
use Rattle.repl_hub.specs.declared.reply.ConnectFault.{ConnectFault}
use Rattle.repl_hub.specs.declared.reply.ConnectFault.TheVariants as connect
use Rattle.repl_hub.specs.declared.reply.WaitFault.{WaitFault}
use Rattle.repl_hub.specs.declared.reply.WaitFault.TheVariants as wait
use Rattle.repl_hub.proofs.Fates.{OfBegun}
use Rattle.repl_hub.proofs.Logs.{Rises, Switches, past_refusal, rises_broken, rises_same}
use Rattle.repl_names.specs.declared.quorum.Mode.{Mode}
use Rattle.repl_node.specs.State.{NodeState, with_log, with_slots}
use Rattle.repl_node.specs.Steps.{OfLog, OfSlots, Saves}
use Rattle.repl_slots.specs.declared.fault.SlotFault.{SlotFault}
use Rattle.repl_slots.specs.declared.fault.SlotFault.TheVariants as slot
use Rattle.repl_slots.specs.declared.slot.Slot.{Slot}
use Rattle.repl_sync.specs.Sync as sync
use Rattle.repl_sync.specs.Sync.{SyncStep}
use Rattle.repl_sync.specs.declared.fault.SyncFault.{SyncFault}
use Rattle.repl_wal.specs.State.{LogState, flushed_end}
use Rattle.repl_wal.specs.Steps.{Step}
use Rattle.repl_wal.specs.declared.fault.NodeFault.{NodeFault}

-- ---- what there is

-- no wait begins or ends, the role stays, and the flushed end does not fall
pub record Lasting (h m : HubView) : Type 0 where
  pub log : Rises h.node.log m.node.log
  pub same : m.sync ≡ h.sync

-- the log stays, and sessions and tickets are told; a wait that begins is certain
pub record Telling (h m : HubView) : Type 0 where
  pub log : m.node.log ≡ h.node.log
  pub event : sync.Event
  pub answer : sync.Reply
  pub step : SyncStep h.sync event answer m.sync
  pub begun : OfBegun (IsCertain h.node.log) event

-- a standby goes over to another timeline
pub record Switching (h : HubView) (event : HubEvent) (m : HubView) : Type 0 where
  pub switch : IsSwitch event
  pub log : Switches h.node.log m.node.log
  pub step : SyncStep h.sync sync.NewTimeline sync.Done m.sync

-- all waits are cancelled, and the flushed end does not fall
pub record Ending (h m : HubView) : Type 0 where
  pub rises : flushed_end h.node.log ≤ flushed_end m.node.log
  pub step : SyncStep h.sync sync.CancelAll sync.Done m.sync

pub data Comes (h : HubView) (event : HubEvent) (m : HubView) : Type 0 where
  lasts : Lasting h m → Comes h event m
  tells : Telling h m → Comes h event m
  switches : Switching h event m → Comes h event m
  ends : Ending h m → Comes h event m

-- ---- the node alone

module _ (h : HubView) (event : HubEvent) where
  pub stays : (m : HubView) → m ≡ h → Comes h event m
  stays m is = subst (Comes h event) (sym is) (lasts (record { log = rises_same h.node.log; same = refl }))

  pub of_rising : (node : NodeState) (m : HubView) → Rises h.node.log node.log → m ≡ with_node h node → Comes h event m
  of_rising node m rises is = subst (Comes h event) (sym is) (lasts (record { log = rises; same = refl }))

  pub of_log : (m : HubView) (Next : LogState → Type 0) → ((log : LogState) → Next log → Rises h.node.log log)
      → OfNode h (OfLog h.node Next) m → Comes h event m
  of_log m Next rises is =
      of_rising (with_log h.node is.1.0) m (rises is.1.0 is.1.1) (is.2 ∙ ap (with_node h) is.1.2)

  pub of_slotted : (m : HubView) (slots : List Slot) → m ≡ slotted h slots → Comes h event m
  of_slotted m slots is = of_rising (with_slots h.node slots) m (rises_same h.node.log) is

  pub of_slots : {A : Type 0} (m : HubView) (slots : List Slot) (result : Result A SlotFault) → OfNode h (OfSlots h.node slots result) m
      → Comes h event m
  of_slots m slots (Ok a) is = of_slotted m slots (is.2 ∙ ap (with_node h) is.1)
  of_slots m slots (Err e) is = stays m (is.2 ∙ ap (with_node h) is.1)

  saved_rises : {A : Type 0} (node : NodeState) (result : Result A SlotFault) → Saves h.node result node → Rises h.node.log node.log
  saved_rises node (Ok a) is = subst (λ (k : NodeState). Rises h.node.log k.log) (sym is.1) (rises_same h.node.log)
  saved_rises node (Err slot.Broken) is = subst (λ (k : NodeState). Rises h.node.log k.log) (sym is.1) (rises_same h.node.log)
  saved_rises node (Err slot.DiskFault) is = subst (λ (k : NodeState). Rises h.node.log k.log) (sym is.1) (rises_broken h.node.log)
  saved_rises node (Err slot.Memory) is = subst (λ (k : NodeState). Rises h.node.log k.log) (sym is.1) (rises_same h.node.log)
  saved_rises node (Err e) is = absurd is

  pub of_saves : {A : Type 0} (m : HubView) (result : Result A SlotFault) → OfNode h (Saves h.node result) m → Comes h event m
  of_saves m result is = of_rising is.0 m (saved_rises is.0 result is.1) is.2

  -- ---- sessions and tickets alone

  pub of_sync : (m : HubView) (told : sync.Event) (answer : sync.Reply) → OfBegun (IsCertain h.node.log) told → OfSync h told answer m
      → Comes h event m
  of_sync m told answer begun is =
      subst (Comes h event) (sym is.2) (tells (record { log = refl; event = told; answer = answer; step = is.1; begun = begun }))

  pub of_connect : (m : HubView) (name : List ℕ) (replication : Bool) (result : Result ℕ ConnectFault) → IsConnect h name replication result m
      → Comes h event m
  of_connect m name replication (Ok number) is = subst (Comes h event) (sym is.becomes)
      (tells (record { log = refl; event = sync.Connect number name; answer = sync.Done; step = is.step; begun = tt }))
  of_connect m name replication (Err connect.Stopped) is = stays m is.1
  of_connect m name replication (Err (connect.TooMany there)) is = stays m is.3
  of_connect m name replication (Err connect.Memory) is = stays m is.1

  pub of_streaming : (m : HubView) (session tli : ℕ) (result : Result (Unit {0}) SyncFault) → IsStreaming h session tli result m → Comes h event m
  of_streaming m session tli result (inl is) = of_sync m (sync.Streaming session) (sync.done result) tt is.1
  of_streaming m session tli result (inr is) = stays m is.2

  pub of_disconnect : (m : HubView) (session : ℕ) (result : Result (Unit {0}) SyncFault) → IsDisconnect h session result m → Comes h event m
  of_disconnect m session (Ok done) is = subst (Comes h event) (sym is.becomes)
      (tells (record { log = refl; event = sync.Disconnect session; answer = sync.Done; step = is.step; begun = tt }))
  of_disconnect m session (Err e) is = stays m is.1

  pub of_wait : (m : HubView) (ticket end : ℕ) (mode : Mode) (result : Result (Unit {0}) WaitFault) → IsWait h ticket end mode result m
      → Comes h event m
  of_wait m ticket end mode (Ok done) (prepared, inl is) = of_sync m (sync.WaitCancelled ticket) sync.Done tt is.1
  of_wait m ticket end mode (Ok done) (prepared, inr is) = of_sync m (sync.Wait ticket end mode) sync.Done (is.0.primary, is.1) is.2
  of_wait m ticket end mode (Err wait.Unknown) is = stays m is.1
  of_wait m ticket end mode (Err (wait.NotFlushed flushed)) is = stays m is.4

  pub of_stop : (m : HubView) → IsStop h m → Comes h event m
  of_stop m is = subst (Comes h event) (sym is.becomes)
      (tells (record { log = refl; event = sync.CancelAll; answer = sync.Done; step = is.step; begun = tt }))

  -- ---- both

  of_refused : {A : Type 0} (Refuses : NodeFault → Type 0) (Passes : Type 0) (Done : A → LogState → Type 0) (Partly : LogState → Type 0)
      (told : sync.Event) (e : NodeFault) (m : HubView) → ((log : LogState) → Partly log → Rises h.node.log log)
      → OfBoth {A = A} h (λ log. Step Refuses Passes Done Partly h.node.log (Err e) log) (Err e) told m → Comes h event m
  of_refused Refuses Passes Done Partly told e m partly is =
      let n = h.node.log in
      let log = is.1.0 in
      let rises : Rises n log =
      past_refusal Refuses Passes Done Partly n log (Rises n) (rises_same n) (rises_broken n) (partly log) e is.1.1 in
      of_rising (with_log h.node log) m rises
      (is.2.2 ∙ ap (λ (node : NodeState). with_both h node is.2.0) is.1.2 ∙ ap (with_both h (with_log h.node log)) is.2.1)

  pub of_switch : {A : Type 0} (Refuses : NodeFault → Type 0) (Passes : Type 0) (Done : A → LogState → Type 0) (Partly : LogState → Type 0)
      (result : Result A NodeFault) (m : HubView) → IsSwitch event → ((log : LogState) → Partly log → Rises h.node.log log)
      → ((a : A) (log : LogState) → Passes → Done a log → Switches h.node.log log)
      → OfBoth h (λ log. Step Refuses Passes Done Partly h.node.log result log) result sync.NewTimeline m → Comes h event m
  of_switch Refuses Passes Done Partly (Ok a) m switch partly done is =
      let log = is.1.0 in
      subst (Comes h event) (sym (is.2.2 ∙ ap (λ (node : NodeState). with_both h node is.2.0) is.1.2))
      (switches (record { switch = switch; log = done a log is.1.1.1 is.1.1.2; step = is.2.1 }))
  of_switch Refuses Passes Done Partly (Err e) m switch partly done is =
      of_refused Refuses Passes Done Partly sync.NewTimeline e m partly is

  pub of_demote : {A : Type 0} (Refuses : NodeFault → Type 0) (Passes : Type 0) (Done : A → LogState → Type 0) (Partly : LogState → Type 0)
      (result : Result A NodeFault) (m : HubView) → ((log : LogState) → Partly log → Rises h.node.log log)
      → ((a : A) (log : LogState) → Done a log → flushed_end h.node.log ≤ flushed_end log)
      → OfBoth h (λ log. Step Refuses Passes Done Partly h.node.log result log) result sync.CancelAll m → Comes h event m
  of_demote Refuses Passes Done Partly (Ok a) m partly done is =
      let log = is.1.0 in
      subst (Comes h event) (sym (is.2.2 ∙ ap (λ (node : NodeState). with_both h node is.2.0) is.1.2))
      (ends (record { rises = done a log is.1.1.2; step = is.2.1 }))
  of_demote Refuses Passes Done Partly (Err e) m partly done is =
      of_refused Refuses Passes Done Partly sync.CancelAll e m partly is
