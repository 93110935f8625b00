-- Calls on the slots: those that change the list in memory alone, and the one that saves it.
use Rattle.std.proofs.Common.{◌≡◌, ℕ, List, Result, Ok, Err, refl, sym, ap, ◌∙◌, subst, OnOk, OnErr}
use Rattle.repl_disk.specs.Folder.{Folder}
use Rattle.repl_disk.specs.Moments.{started}
use Rattle.repl_disk.specs.State.{DiskState}
use Rattle.repl_slots.specs.Slot.{SlotList, having}
use Rattle.repl_slots.specs.SlotFile.{Entry}
use Rattle.repl_slots.specs.Stored.{Stores}
use Rattle.repl_slots.specs.declared.slot.Slot.{Slot}
use Rattle.repl_slots.specs.declared.fault.SlotFault.{SlotFault}
use Rattle.repl_store.specs.Durable.{Durable, StandsFor}
use Rattle.repl_wal.specs.Holding.{HeldLog, Holds as HoldsLog}
use Rattle.repl_node.specs.Holding.{Goes, HeldNode, Holds}
use Rattle.repl_node.specs.State.{NodeState, with_slots}
use Rattle.repl_node.specs.Steps.{OfSlots, SameLeft}
use Rattle.repl_node.proofs.Passing.{size_of}

-- nothing but the list changed, and it is this now
pub listed : {D : Type 0} (disk : DiskState) (before after : HeldNode D) (n m : NodeState) (Next : NodeState → Type 0) (slots : List Slot)
    → ((image : Folder) → disk.left_since disk.moment image → disk.may_leave image) → Holds disk before n → after.wal ≡ before.wal
    → after.slots ≡ record { slots = slots; broken = before.slots.broken } → m ≡ with_slots n slots → Next m
    → Goes disk disk after n Next (SameLeft n)
listed {D} disk before after n m Next slots only holds wal list is next = record {
  next = m;
  is = next;
  holds = subst (λ (k : NodeState). Holds disk after k) (sym is) (record {
    log = subst (λ (w : HeldLog D). HoldsLog disk w.log n.log) (sym wal) holds.log;
    slots = ap (λ (s : SlotList). s.slots) list;
    sound = λ sound. ap (λ (s : SlotList). s.broken) list ∙ holds.sound sound;
    stored = holds.stored;
  });
  moments = λ yes. λ sound.
      started disk (λ image. (d : Durable) × (saved : List Entry) × SameLeft n d saved × StandsFor n.log.size image d × Stores saved image)
      (λ image left.
      let now = only image left in (
        n.log.kept.durable,
        n.saved,
        (refl, refl),
        subst (λ (k : ℕ). StandsFor k image n.log.kept.durable)
            (size_of before.wal n.log sound holds.log.remembers) ((holds.log.backs yes sound).images image now).stands,
        holds.stored yes sound image now,
      ));
}

-- what a refused call on the list leaves, and one that is done
pub answered : {A D : Type 0} (result : Result A SlotFault) (disk : DiskState) (before after : HeldNode D) (n : NodeState)
    (change : List Slot → List Slot) → ((image : Folder) → disk.left_since disk.moment image → disk.may_leave image)
    → Holds disk before n → after.wal ≡ before.wal → OnOk result (after.slots ≡ having before.slots (change before.slots.slots))
    → OnErr result (after.slots ≡ before.slots) → Goes disk disk after n (OfSlots n (change n.slots) result) (SameLeft n)
answered {A} {D} (Ok x) disk before after n change only holds wal done refused =
    listed disk before after n (with_slots n (change n.slots)) (OfSlots {A = A} n (change n.slots) (Ok x)) (change n.slots) only holds wal
    (done ∙ ap (λ (l : List Slot). having before.slots (change l)) holds.slots) refl refl
answered {A} {D} (Err e) disk before after n change only holds wal done refused =
    listed disk before after n n (OfSlots {A = A} n (change n.slots) (Err e)) n.slots only holds wal
    (refused ∙ ap (λ (l : List Slot). having before.slots l) holds.slots) refl refl

-- what a call leaves that is never refused
pub changed : {D : Type 0} (disk : DiskState) (before after : HeldNode D) (n : NodeState) (change : List Slot → List Slot)
    → ((image : Folder) → disk.left_since disk.moment image → disk.may_leave image) → Holds disk before n → after.wal ≡ before.wal
    → after.slots ≡ having before.slots (change before.slots.slots)
    → Goes disk disk after n (λ m. m ≡ with_slots n (change n.slots)) (SameLeft n)
changed disk before after n change only holds wal done =
    listed disk before after n (with_slots n (change n.slots)) (λ m. m ≡ with_slots n (change n.slots)) (change n.slots) only holds wal
    (done ∙ ap (λ (l : List Slot). having before.slots (change l)) holds.slots) refl refl
