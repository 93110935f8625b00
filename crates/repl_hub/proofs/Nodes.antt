-- A call of the node is an event of the hub: sessions and tickets stay as they were, or are told.
use Rattle.std.proofs.Common.{◌≡◌, true, false, List, map, Result, inl, inr, refl, sym, ap, ◌∙◌, subst}
use Rattle.repl_disk.specs.State.{DiskState}
use Rattle.repl_hub.specs.Holding.{Comes, Goes, HeldHub, Holds, IsKept, hub_of}
use Rattle.repl_hub.specs.Log.{OfBoth, OfNode, Then}
use Rattle.repl_hub.specs.State.{HubView, slotted, with_both, with_node}
use Rattle.repl_node.specs.Holding.{Comes as NodeComes, Goes as NodeGoes, HeldNode, Holds as HoldsNode, Remembers}
use Rattle.repl_node.specs.State.{Left, NodeState, with_log, with_slots}
use Rattle.repl_slots.specs.declared.slot.Slot.{Slot}
use Rattle.repl_node.specs.Steps.{OfLog}
use Rattle.repl_sync.specs.State.{State}
use Rattle.repl_sync.specs.Sync as sync
use Rattle.repl_sync.specs.Sync.{SyncStep}
use Rattle.repl_store.specs.Head.{Head}
use Rattle.repl_record.specs.declared.walker.Walker.{Walker}
use Rattle.repl_wal.specs.Holding.{HeldLog, Remembers as RemembersLog, Runs}
use Rattle.repl_wal.specs.State.{LogState}
use Rattle.repl_wal.specs.declared.fault.NodeFault.{NodeFault}

-- the same hub with another node in memory, and with other sessions and tickets
abbrev pub held_with : {D : Type 0} → HeldHub D → HeldNode D → State → HeldHub D
held_with held node sync = record { node = node; sync = sync; links = held.links; last = held.last; stopped = held.stopped }

-- ---- a state that says nothing of the disk

abbrev pub untold : NodeState → NodeState
untold n = with_log n (record { size = n.log.size; kept = n.log.kept; broken = n.log.broken; told = false })

untold_runs : (head : Head) (w : Walker) (n : NodeState) → Runs head w n.log → Runs head w (untold n).log
untold_runs head w n runs = record {
  size = runs.size;
  control = runs.control;
  path = runs.path;
  written = runs.written;
  counted = runs.counted;
  of_log = runs.of_log;
  walked = runs.walked;
  unended = runs.unended;
  primary = runs.primary;
}

untold_log : {D : Type 0} (held : HeldLog D) (n : NodeState) → RemembersLog held.log n.log → RemembersLog held.log (untold n).log
untold_log held n (inl runs) = inl (runs.0, runs.1, runs.2, untold_runs held.log.head held.log.walker n runs.3)
untold_log held n (inr stopped) = inr (stopped.0, stopped.1, stopped.2)

-- who remembers a state is in it over every disk, where nothing is said of the disk
pub over_any : {D : Type 0} (disk : DiskState) (held : HeldNode D) (n : NodeState) → Remembers held n → HoldsNode disk held (untold n)
over_any disk held n remembers = record {
  log = record { remembers = untold_log held.wal n remembers.log; backs = λ told. λ sound. absurd (let no : false ≡ true = told in cc) };
  slots = remembers.slots;
  sound = remembers.sound;
  stored = λ told. λ sound. absurd (let no : false ≡ true = told in cc);
}

pub remembered : {D : Type 0} (disk : DiskState) (held : HeldNode D) (n : NodeState) → HoldsNode disk held n → Remembers held n
remembered disk held n holds = record { log = holds.log.remembers; slots = holds.slots; sound = holds.sound }

-- after a call of the node the hub is kept, with the sessions that it had
pub kept_past : {A D : Type 0} (result : Result A NodeFault) (old new : DiskState) (before : HeldHub D) (after : HeldNode D)
    (kept : IsKept before) (Next : NodeState → Type 0) (left : Left) → NodeComes result old new after (untold kept.node) Next left
    → IsKept (held_with before after before.sync)
kept_past result old new before after kept Next left comes = record {
  node = comes.goes.next;
  remembers = remembered new after comes.goes.next comes.goes.holds;
  links = kept.links;
}

-- and after a call on its slots
pub kept_listed : {D : Type 0} (old new : DiskState) (before : HeldHub D) (after : HeldNode D)
    (kept : IsKept before) (Next : NodeState → Type 0) (left : Left) → NodeGoes old new after (untold kept.node) Next left
    → IsKept (held_with before after before.sync)
kept_listed old new before after kept Next left goes = record {
  node = goes.next;
  remembers = remembered new after goes.next goes.holds;
  links = kept.links;
}

-- and where the sessions and tickets are told
pub kept_told : {A D : Type 0} (result : Result A NodeFault) (old new : DiskState) (before : HeldHub D) (after : HeldNode D) (told : State)
    (kept : IsKept before) (Next : NodeState → Type 0) (left : Left)
    → map (λ session. session.number) told.sessions ≡ map (λ session. session.number) before.sync.sessions
    → NodeComes result old new after (untold kept.node) Next left → IsKept (held_with before after told)
kept_told result old new before after told kept Next left same comes = record {
  node = comes.goes.next;
  remembers = remembered new after comes.goes.next comes.goes.holds;
  links = kept.links ∙ sym same;
}

-- sessions and tickets are told, and the node is as it was
pub kept_sync : {D : Type 0} (before : HeldHub D) (told : State) (kept : IsKept before)
    → map (λ session. session.number) told.sessions ≡ map (λ session. session.number) before.sync.sessions
    → IsKept (held_with before before.node told)
kept_sync before told kept same = record {
  node = kept.node;
  remembers = kept.remembers;
  links = kept.links ∙ sym same;
}

-- ---- the node alone

pub of_node_goes : {D : Type 0} (old new : DiskState) (before : HeldHub D) (after : HeldNode D) (h : HubView)
    (Next : NodeState → Type 0) (left : Left) → Holds old before h → NodeGoes old new after h.node Next left
    → Goes old new (held_with before after before.sync) h (OfNode h Next) left
of_node_goes old new before after h Next left holds goes = record {
  next = with_node h goes.next;
  is = (goes.next, goes.is, refl);
  holds = record { node = goes.holds; is = ap (λ (k : HubView). with_node k goes.next) holds.is };
  moments = goes.moments;
}

pub of_node : {A D : Type 0} (result : Result A NodeFault) (old new : DiskState) (before : HeldHub D) (after : HeldNode D) (h : HubView)
    (Next : NodeState → Type 0) (left : Left) → Holds old before h → NodeComes result old new after h.node Next left
    → Comes result old new (held_with before after before.sync) h (OfNode h Next) left
of_node result old new before after h Next left holds comes = record {
  goes = of_node_goes old new before after h Next left holds comes.goes;
  failed = comes.failed;
}

-- ---- and then the sessions

pub of_both : {A D : Type 0} (result : Result A NodeFault) (old new : DiskState) (before : HeldHub D) (after : HeldNode D) (told : State)
    (event : sync.Event) (h : HubView) (Next : LogState → Type 0) (left : Left) → Holds old before h
    → NodeComes result old new after h.node (OfLog h.node Next) left → Then result event before.sync told
    → Comes result old new (held_with before after told) h (OfBoth h Next result event) left
of_both result old new before after told event h Next left holds comes then = record {
  goes = record {
    next = with_both h comes.goes.next told;
    is = (
      comes.goes.next,
      comes.goes.is,
      (told, subst (λ (s : State). Then result event s told) (sym (ap (λ (k : HubView). k.sync) holds.is)) then, refl),
    );
    holds = record { node = comes.goes.holds; is = ap (λ (k : HubView). with_both k comes.goes.next told) holds.is };
    moments = comes.goes.moments;
  };
  failed = comes.failed;
}

-- ---- calls on its slots

pub of_listed : {D : Type 0} (old new : DiskState) (before : HeldHub D) (after : HeldNode D) (h : HubView) (Can : List Slot → Type 0)
    (Next : NodeState → Type 0) (left : Left) → Holds old before h → Can before.node.slots.slots → NodeGoes old new after h.node Next left
    → Goes old new (held_with before after before.sync) h (λ m. Can h.node.slots × OfNode h Next m) left
of_listed old new before after h Can Next left holds can goes =
    let of = of_node_goes old new before after h Next left holds goes in
    record { next = of.next; is = (subst Can holds.node.slots can, of.is); holds = of.holds; moments = of.moments }

pub of_slotted : {D : Type 0} (old new : DiskState) (before : HeldHub D) (after : HeldNode D) (h : HubView) (slots : List Slot) (left : Left)
    → Holds old before h → NodeGoes old new after h.node (λ m. m ≡ with_slots h.node slots) left
    → Goes old new (held_with before after before.sync) h (λ m. m ≡ slotted h slots) left
of_slotted old new before after h slots left holds goes = record {
  next = with_node h goes.next;
  is = ap (with_node h) goes.is;
  holds = record { node = goes.holds; is = ap (λ (k : HubView). with_node k goes.next) holds.is };
  moments = goes.moments;
}

-- ---- in some state

-- what leads on from every state leads on from some one, over every disk
pub gives_some : {D : Type 0} (old new : DiskState) (before after : HeldHub D) (kept : IsKept before) (Next : HubView → HubView → Type 0)
    (left : HubView → Left) → ((h : HubView) → Holds old before h → Goes old new after h (Next h) (left h))
    → (h : HubView) × (m : HubView) × Next h m
gives_some old new before after kept Next left steps =
    let node = untold kept.node in
    let h = hub_of before node in
    let goes = steps h (record { node = over_any old before.node kept.node kept.remembers; is = refl }) in
    (h, goes.next, goes.is)
