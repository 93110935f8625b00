-- A call of the log is a call of the node: the slots stay as they were, in memory and on the disk.
use Rattle.std.proofs.Common.{◌≡◌, List, true, false, Result, Some, inl, inr, ⊎_elim, refl, sym, ap, ◌∙◌, subst}
use Rattle.repl_disk.specs.Crash.{LeavesOnly}
use Rattle.repl_disk.specs.Folder.{Folder, IfTold}
use Rattle.repl_disk.specs.Moments.{weakened}
use Rattle.repl_disk.specs.State.{DiskState}
use Rattle.repl_slots.specs.Slot.{SlotList}
use Rattle.repl_slots.specs.SlotFile.{Entry}
use Rattle.repl_slots.specs.Stored.{StoredIn, Stores, slots_name}
use Rattle.repl_store.specs.Apart.{IsLikeOne, StaysApart}
use Rattle.repl_store.specs.Durable.{Durable, StandsFor}
use Rattle.repl_wal.specs.Holding.{Comes as LogComes, HeldLog, Remembers as RemembersLog}
use Rattle.repl_wal.specs.State.{LogState}
use Rattle.repl_wal.specs.Steps.{Step}
use Rattle.repl_wal.specs.declared.fault.NodeFault.{NodeFault}
use Rattle.repl_node.specs.Holding.{Comes, HeldNode, Holds}
use Rattle.repl_node.specs.State.{Left, LeftOf, NodeState, with_log}
use Rattle.repl_node.specs.Steps.{OfLog}
use Rattle.repl_node.proofs.Sorting.{Sorted, broke, done, partly, sorted, stayed}

-- ---- images

-- a crash at any moment leaves what has both
pub both : (old new : DiskState) (P Q : Folder → Type 0) → LeavesOnly old new P → LeavesOnly old new Q
    → LeavesOnly old new (λ image. P image × Q image)
both old new P Q first second = record {
  later = first.later;
  each = λ image left. (first.each image left, second.each image left);
  before = λ t image le left.
      ⊎_elim inl (λ p. ⊎_elim inl (λ q. inr (p, q)) (second.before t image le left)) (first.before t image le left);
}

-- an image with the slots of one that stores these, stores these
pub stores_on : (images : Folder → Type 0) (saved : List Entry) (image : Folder) → ((before : Folder) → images before → Stores saved before)
    → IsLikeOne images image → Stores saved image
stores_on images saved image all like = subst (StoredIn saved) (sym (like.2 slots_name (inl refl))) (all like.0 like.1)

-- where the files are told, what holds where they are told
pub told : {A : Type 0} (disk : DiskState) (folder : Folder) → disk.files ≡ Some folder → IfTold disk.files (λ f. A) → A
told {A} disk folder is here = subst (λ files. IfTold files (λ f. A)) is here

-- segments in memory have the size of the log's
pub size_of : {D : Type 0} (held : HeldLog D) (n : LogState) → n.broken ≡ false → RemembersLog held.log n → held.log.head.size ≡ n.size
size_of held n sound (inl runs) = runs.3.size
size_of held n sound (inr stopped) = let no : false ≡ true = sym sound ∙ stopped.1 in absurd cc

-- ---- a state that keeps what it keeps

-- each next state tells its files where this one does, and is broken where this one is
abbrev pub Tame : NodeState → (LogState → Type 0) → Type 0
Tame n Next = (log : LogState) → Next log → (log.told ≡ n.log.told) × (log.broken ≡ false → n.log.broken ≡ false) × (log.size ≡ n.log.size)

-- it tells its files where this one does, and has segments of the same size
abbrev pub Same : LogState → LogState → Type 0
Same n m = (m.told ≡ n.told) × (m.size ≡ n.size)

tamed : {A : Type 0} {D : A → LogState → Type 0} {Q : LogState → Type 0} (n : NodeState) (m : LogState) → Sorted D Q n.log m
    → ((a : A) (m : LogState) → D a m → Same n.log m) → ((m : LogState) → Q m → Same n.log m)
    → (m.told ≡ n.log.told) × (m.broken ≡ false → n.log.broken ≡ false) × (m.size ≡ n.log.size)
tamed n m (done a is sound) when some = let keeps = when a m is in (keeps.0, λ yes. sound, keeps.1)
tamed n m (stayed is) when some =
    (ap (λ (l : LogState). l.told) is, λ yes. sym (ap (λ (l : LogState). l.broken) is) ∙ yes, ap (λ (l : LogState). l.size) is)
tamed n m (broke is sound) when some = (ap (λ (l : LogState). l.told) is, λ yes. sound, ap (λ (l : LogState). l.size) is)
tamed n m (partly is sound) when some = let keeps = some m is in (keeps.0, λ yes. sound, keeps.1)

pub of_log : {A D : Type 0} (result : Result A NodeFault) (old new : DiskState) (before after : HeldNode D) (n : NodeState)
    (Next : LogState → Type 0) (column : Durable → Type 0) → Tame n Next → Holds old before n → StaysApart old new
    → after.slots ≡ before.slots → LogComes result old new after.wal.log n.log Next column
    → Comes result old new after n (OfLog n Next) (LeftOf n column)
of_log result old new before after n Next column tame holds apart same comes =
    let log = comes.next in
    let keeps = tame log comes.is in
    let first = λ (yes : n.log.told ≡ true). λ (sound : n.log.broken ≡ false). holds.log.backs yes sound in
    record {
      goes = record {
        next = with_log n log;
        is = (log, comes.is, refl);
        holds = record {
          log = comes.holds;
          slots = ap (λ (s : SlotList). s.slots) same ∙ holds.slots;
          sound = λ sound. ap (λ (s : SlotList). s.broken) same ∙ holds.sound (keeps.1 sound);
          stored = λ yes. λ sound. λ image. λ left.
              let yes_before : n.log.told ≡ true = sym keeps.0 ∙ yes in
              let backs = first yes_before (keeps.1 sound) in
              stores_on old.may_leave n.saved image (holds.stored yes_before (keeps.1 sound))
              (told old backs.folder backs.told apart.now image left);
        };
        moments = λ yes. λ sound.
            let backs = first yes sound in
            weakened old new
            (λ image. ((d : Durable) × column d × StandsFor n.log.size image d) × IsLikeOne old.may_leave image)
            (λ image. (d : Durable) × (saved : List Entry) × LeftOf n column d saved × StandsFor n.log.size image d × Stores saved image)
            (both old new (λ image. (d : Durable) × column d × StandsFor n.log.size image d) (IsLikeOne old.may_leave)
            (comes.moments yes sound) (told old backs.folder backs.told apart.moments))
            (λ image has. (has.0.0, n.saved, (has.0.1, refl), has.0.2, stores_on old.may_leave n.saved image (holds.stored yes sound) has.1));
      };
      failed = comes.failed;
    }

-- what a call leaves that tells its files where it did before, where it is done or partly done
pub tame_step : {A : Type 0} (R : NodeFault → Type 0) (P : Type 0) (D : A → LogState → Type 0) (Q : LogState → Type 0) (n : NodeState)
    (result : Result A NodeFault) → ((a : A) (m : LogState) → D a m → Same n.log m) → ((m : LogState) → Q m → Same n.log m)
    → Tame n (λ m. Step R P D Q n.log result m)
tame_step R P D Q n result when some m step = tamed n m (sorted R P D Q n.log result m step) when some

-- more may be said of what comes
pub comes_as : {A D : Type 0} (result : Result A NodeFault) (old new : DiskState) (held : HeldNode D) (n : NodeState)
    (Next Then : NodeState → Type 0) (left more : Left) → ((m : NodeState) → Next m → Then m)
    → ((d : Durable) (saved : List Entry) → left d saved → more d saved) → Comes result old new held n Next left
    → Comes result old new held n Then more
comes_as result old new held n Next Then left more leads wider comes = record {
  goes = record {
    next = comes.goes.next;
    is = leads comes.goes.next comes.goes.is;
    holds = comes.goes.holds;
    moments = λ yes. λ sound.
        weakened old new
        (λ image. (d : Durable) × (saved : List Entry) × left d saved × StandsFor n.log.size image d × Stores saved image)
        (λ image. (d : Durable) × (saved : List Entry) × more d saved × StandsFor n.log.size image d × Stores saved image)
        (comes.goes.moments yes sound) (λ image has. (has.0, has.1, wider has.0 has.1 has.2, has.3, has.4));
  };
  failed = comes.failed;
}
