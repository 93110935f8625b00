-- Events that leave the node alone.
use Rattle.std.proofs.Common.{◌≡◌, ℕ, true, List, Result, min, refl, sym, ap, subst}
use Rattle.repl_disk.specs.Folder.{Folder}
use Rattle.repl_disk.specs.Moments.{started}
use Rattle.repl_disk.specs.State.{DiskState}
use Rattle.repl_hub.specs.Holding.{Goes, HeldHub, Holds, hub_of}
use Rattle.repl_hub.specs.Sessions.{IsReport, OfSync}
use Rattle.repl_hub.specs.State.{HubView, with_sync}
use Rattle.repl_hub.specs.Waits.{IsStop}
use Rattle.repl_hub.proofs.Nodes.{held_with, remembered}
use Rattle.repl_node.proofs.Passing.{size_of}
use Rattle.repl_node.specs.Holding.{HeldNode, Holds as HoldsNode, Remembers}
use Rattle.repl_node.specs.State.{Left, NodeState}
use Rattle.repl_node.specs.Steps.{SameLeft}
use Rattle.repl_slots.specs.SlotFile.{Entry}
use Rattle.repl_slots.specs.Stored.{Stores}
use Rattle.repl_store.specs.Durable.{Durable, StandsFor}
use Rattle.repl_sync.specs.State.{State}
use Rattle.repl_sync.specs.Sync as sync
use Rattle.repl_sync.specs.Sync.{SyncStep, done}
use Rattle.repl_sync.specs.declared.fault.SyncFault.{SyncFault}
use Rattle.repl_wal.specs.State.{flushed_end, identity_in, own_timeline, role_of, status_of_log}
use Rattle.repl_wal.specs.declared.wal.Identity.{Identity}

-- what is in memory changed, but for the node: a crash leaves what the node keeps
pub rests : {D : Type 0} (disk : DiskState) (before after : HeldHub D) (h m : HubView) (Next : HubView → Type 0)
    → ((image : Folder) → disk.left_since disk.moment image → disk.may_leave image) → Holds disk before h → after.node ≡ before.node
    → m ≡ hub_of after h.node → Next m → Goes disk disk after h Next (SameLeft h.node)
rests {D} disk before after h m Next only holds same is next = record {
  next = m;
  is = next;
  holds = subst (λ (k : HubView). Holds disk after k) (sym is) (record {
    node = subst (λ (node : HeldNode D). HoldsNode disk node h.node) (sym same) holds.node;
    is = refl;
  });
  moments = λ told. λ sound.
      started disk (λ image. (d : Durable) × (saved : List Entry) × SameLeft h.node d saved × StandsFor h.node.log.size image d × Stores saved image)
      (λ image left.
      let now = only image left in (
        h.node.log.kept.durable,
        h.node.saved,
        (refl, refl),
        subst (λ (k : ℕ). StandsFor k image h.node.log.kept.durable)
            (size_of before.node.wal h.node.log sound holds.node.log.remembers) ((holds.node.log.backs told sound).images image now).stands,
        holds.node.stored told sound image now,
      ));
}

-- a step of the sessions and tickets
pub of_sync : {D : Type 0} (disk : DiskState) (before : HeldHub D) (told : State) (event : sync.Event) (answer : sync.Reply) (h : HubView)
    → ((image : Folder) → disk.left_since disk.moment image → disk.may_leave image) → Holds disk before h
    → SyncStep before.sync event answer told
    → Goes disk disk (held_with before before.node told) h (OfSync h event answer) (SameLeft h.node)
of_sync disk before told event answer h only holds step =
    rests disk before (held_with before before.node told) h (with_sync h told) (OfSync h event answer) only holds refl
    (ap (λ (k : HubView). with_sync k told) holds.is)
    (told, subst (λ (s : State). SyncStep s event answer told) (sym (ap (λ (k : HubView). k.sync) holds.is)) step, refl)

-- what the node tells of itself is the hub's
pub told_end : {D : Type 0} (disk : DiskState) (held : HeldHub D) (h : HubView) (identity : Identity) → Holds disk held h
    → ((n : NodeState) → Remembers held.node n → identity ≡ identity_in (status_of_log n.log)) → identity.flushed ≡ flushed_end h.node.log
told_end disk held h identity holds told =
    ap (λ (i : Identity). i.flushed) (told h.node (remembered disk held.node h.node holds.node))

pub of_report : {D : Type 0} (disk : DiskState) (before : HeldHub D) (told : State) (h : HubView) (session written flushed applied w f a end : ℕ)
    (result : Result (Unit {0}) SyncFault) → ((image : Folder) → disk.left_since disk.moment image → disk.may_leave image)
    → Holds disk before h → end ≡ flushed_end h.node.log → w ≡ min written end → f ≡ min flushed end → a ≡ min applied end
    → SyncStep before.sync (sync.Report session w f a) (done result) told
    → Goes disk disk (held_with before before.node told) h (IsReport h session written flushed applied result) (SameLeft h.node)
of_report disk before told h session written flushed applied w f a end result only holds is first second third step =
    let E : ℕ → Type 0 = λ e. SyncStep before.sync (sync.Report session (min written e) (min flushed e) (min applied e)) (done result) told in
    let W : ℕ → Type 0 = λ x. SyncStep before.sync (sync.Report session x f a) (done result) told in
    let F : ℕ → Type 0 = λ x. SyncStep before.sync (sync.Report session (min written end) x a) (done result) told in
    let A : ℕ → Type 0 = λ x. SyncStep before.sync (sync.Report session (min written end) (min flushed end) x) (done result) told in
    let e = flushed_end h.node.log in
    of_sync disk before told (sync.Report session (min written e) (min flushed e) (min applied e)) (done result) h only holds
    (subst E is (subst A third (subst F second (subst W first step))))

pub of_stop : {D : Type 0} (disk : DiskState) (before : HeldHub D) (told : State) (h : HubView)
    → ((image : Folder) → disk.left_since disk.moment image → disk.may_leave image) → Holds disk before h
    → SyncStep before.sync sync.CancelAll sync.Done told
    → Goes disk disk (record { node = before.node; sync = told; links = before.links; last = before.last; stopped = true }) h (IsStop h) (SameLeft h.node)
of_stop disk before told h only holds step =
    let m : HubView = record { node = h.node; sync = told; links = h.links; last = h.last; stopped = true } in
    rests disk before (record { node = before.node; sync = told; links = before.links; last = before.last; stopped = true }) h m (IsStop h) only
    holds refl (ap (λ (k : HubView). record { node = h.node; sync = told; links = k.links; last = k.last; stopped = true }) holds.is) (record {
      told = told;
      step = subst (λ (s : State). SyncStep s sync.CancelAll sync.Done told) (sym (ap (λ (k : HubView). k.sync) holds.is)) step;
      becomes = refl;
    })

-- nothing changed
pub stays : {D : Type 0} (disk : DiskState) (held : HeldHub D) (h : HubView) (Next : HubView → Type 0)
    → ((image : Folder) → disk.left_since disk.moment image → disk.may_leave image) → Holds disk held h → Next h
    → Goes disk disk held h Next (SameLeft h.node)
stays disk held h Next only holds next = rests disk held held h h Next only holds refl holds.is next

-- it leads to more
pub wider : {D : Type 0} (old new : DiskState) (held : HeldHub D) (h : HubView) (Next Then : HubView → Type 0) (left : Left)
    → ((m : HubView) → Next m → Then m) → Goes old new held h Next left → Goes old new held h Then left
wider old new held h Next Then left leads goes =
    record { next = goes.next; is = leads goes.next goes.is; holds = goes.holds; moments = goes.moments }

pub told_role : {D : Type 0} (disk : DiskState) (held : HeldHub D) (h : HubView) (identity : Identity) → Holds disk held h
    → ((n : NodeState) → Remembers held.node n → identity ≡ identity_in (status_of_log n.log)) → identity.role ≡ role_of h.node.log
told_role disk held h identity holds told =
    ap (λ (i : Identity). i.role) (told h.node (remembered disk held.node h.node holds.node))

pub told_own : {D : Type 0} (disk : DiskState) (held : HeldHub D) (h : HubView) (identity : Identity) → Holds disk held h
    → ((n : NodeState) → Remembers held.node n → identity ≡ identity_in (status_of_log n.log)) → identity.tli ≡ own_timeline h.node.log
told_own disk held h identity holds told =
    ap (λ (i : Identity). i.tli) (told h.node (remembered disk held.node h.node holds.node))
