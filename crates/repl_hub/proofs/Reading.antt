-- What a reply carries of a read is what was read.
use Rattle.std.specs.Prelude.{MatchResult}
use Rattle.std.proofs.Common.{rules, tests, ◌≡◌, ◌≢◌, ℕ, ◌+◌, ◌-◌, ◌<◌, ◌≤◌, true, false, Bool, List, length, take, drop, Result, Ok, Err, refl, sym, ap, ◌∙◌, subst, arith, nat_le, nat_lt, if◌then◌else◌}
use Rattle.std.proofs.lemmas.List.{length-take}
use Rattle.repl_disk.specs.Folder.{Folder}
use Rattle.repl_disk.specs.State.{DiskState}
use Rattle.repl_hub.specs.Holding.{Comes, HeldHub, Holds}
use Rattle.repl_hub.specs.Log.{IsCarried, IsHistory, IsLogRead, IsRead as IsReadEvent, IsSharedOf, ReadsLog, TellsHistory, read_room}
use Rattle.repl_hub.specs.State.{HubView}
use Rattle.repl_hub.specs.declared.reply.LogRead.{LogRead}
use Rattle.repl_hub.specs.declared.reply.LogRead.TheVariants as read
use Rattle.repl_hub.proofs.Nodes.{held_with, of_node}
use Rattle.repl_hub.proofs.Resting.{stays}
use Rattle.repl_node.specs.Holding.{Comes as NodeComes, HeldNode}
use Rattle.repl_node.specs.State.{LeftOf}
use Rattle.repl_node.specs.Steps.{OfLog, SameLeft}
use Rattle.repl_page.specs.Page.{page_start}
use Rattle.repl_wal.specs.Reading.{CanRead, IsRead, IsReadRefusal, Reads, read_count}
use Rattle.repl_store.specs.Backing.{log}
use Rattle.repl_wal.specs.State.{LogState, floor_of, path_of}
use Rattle.repl_wal.specs.Steps.{Old, Only, Step}
use Rattle.repl_wal.specs.Telling.{IsHistoryOf, IsHistoryRefusal}
use Rattle.repl_wal.specs.declared.fault.NodeFault.{NodeFault}
use Rattle.repl_wal.specs.declared.fault.NodeFault.TheVariants as fault
use Rattle.repl_wal.specs.declared.read.ReadOut.{ReadOut}
use Rattle.repl_wal.specs.declared.read.ReadOut.TheVariants as out

-- a refusal does not depend on what would be answered
refused_as : {A B : Type 0} (R : NodeFault → Type 0) (P : Type 0) (D : A → LogState → Type 0) (E : B → LogState → Type 0) (Q : LogState → Type 0)
    (n : LogState) (e : NodeFault) (m : LogState) → Step R P D Q n (Err e) m → Step R P E Q n (Err e) m
refused_as R P D E Q n fault.Broken m s = s
refused_as R P D E Q n fault.DiskFault m s = s
refused_as R P D E Q n fault.Memory m s = s
refused_as R P D E Q n e m s = s

-- ---- histories

-- the text that is carried is the text
pub history_told : {V : Type 0} (items : V → List ℕ) (n : LogState) (tli : ℕ) (text : Result V NodeFault) (result : Result (List ℕ) NodeFault)
    → Step (IsHistoryRefusal (path_of n) tli) (tli ≢ 1) (λ t m. IsHistoryOf (path_of n) tli (items t) × (m ≡ n)) (Only n) n text n
    → MatchResult text (λ t. IsSharedOf (items t) result) (λ f. result ≡ Err f) → TellsHistory n tli result n
history_told items n tli (Ok t) (Ok bytes) told shared =
    (told.0, told.1, (subst (IsHistoryOf (path_of n) tli) (sym shared) told.2.0, refl))
history_told items n tli (Ok t) (Err e) told shared = subst (λ f. TellsHistory n tli (Err f) n) (sym shared) (told.0, refl)
history_told items n tli (Err f) result told shared =
    subst (λ r. TellsHistory n tli r n) (sym shared) (refused_as (IsHistoryRefusal (path_of n) tli) (tli ≢ 1)
    (λ t m. IsHistoryOf (path_of n) tli (items t) × (m ≡ n)) (λ t m. IsHistoryOf (path_of n) tli t × (m ≡ n)) (Only n) n f n told)

pub history_comes : {D : Type 0} (disk : DiskState) (held : HeldHub D) (h : HubView) (tli : ℕ) (result : Result (List ℕ) NodeFault)
    → ((image : Folder) → disk.left_since disk.moment image → disk.may_leave image) → Holds disk held h
    → TellsHistory h.node.log tli result h.node.log → (result ≡ Err fault.DiskFault → ⊥)
    → Comes result disk disk held h (IsHistory h tli result) (SameLeft h.node)
history_comes disk held h tli result only holds told sound = record {
  goes = stays disk held h (IsHistory h tli result) only holds (h.node, (h.node.log, told, refl), refl);
  failed = λ is. absurd (sound is);
}

-- no history is told with a failure of the disk, since nothing breaks
pub no_failure : (n : LogState) (tli : ℕ) (result : Result (List ℕ) NodeFault) → TellsHistory n tli result n
    → result ≡ Err fault.DiskFault → ⊥
no_failure n tli result told is =
    let step = subst (λ r. TellsHistory n tli r n) is told in
    let breaks : n.broken ≡ true = ap (λ (l : LogState). l.broken) step.2 in
    let no_way : false ≡ true = sym step.0 ∙ breaks in absurd cc

-- ---- reads

-- no more is read than there is room for
within : (at end room : ℕ) → at < end → read_count at end room ≤ room
within at end room before = step (nat_le end (at + room)) refl (nat_lt at (page_start (at + room))) refl
  where
    step : (a : Bool) → nat_le end (at + room) ≡ a → (b : Bool) → nat_lt at (page_start (at + room)) ≡ b
        → (if a then end - at else (if b then page_start (at + room) - at else room)) ≤ room
    step true is b page = let le : end ≤ at + room = search (rules, tests, is) in omega (arith, le)
    step false is true page = omega arith
    step false is false page = omega arith

-- what is carried of a read was read
pub read_told : (n : LogState) (tli at most : ℕ) (before after : List ℕ) (answer : ReadOut) (result : Result LogRead NodeFault) (m : LogState)
    → length before ≡ read_room most → length after ≡ length before → Reads n tli at before after (Ok answer) m
    → IsCarried answer after result → ReadsLog n tli at most result m
read_told n tli at most before after (out.Bytes count) (Ok x) m room same told carried =
    let ends = told.2.0.0 in
    let fits : count ≤ length after = omega (arith, within at ends.0 (length before) ends.2, ends.3, same) in
    let long : length (take count after) ≡ count = omega (arith, length-take count after, fits) in
    let counted : length (take count after) ≡ read_count at ends.0 (read_room most) = long ∙ ends.3 ∙ ap (read_count at ends.0) room in
    let bytes : n.told ≡ true → take count after ≡ take (length (take count after)) (drop (at - floor_of n) (log n.kept)) =
    λ is. told.2.0.1 is ∙ ap (λ k. take k (drop (at - floor_of n) (log n.kept))) (sym long) in
    subst (λ y. ReadsLog n tli at most (Ok y) m) (sym carried) (told.0, told.1, (((ends.0, ends.1, ends.2, counted), bytes), told.2.1))
read_told n tli at most before after (out.Bytes count) (Err e) m room same told carried =
    subst (λ f. ReadsLog n tli at most (Err f) m) (sym carried) (told.0, told.2.1)
read_told n tli at most before after out.AtEnd result m room same told carried =
    subst (λ r. ReadsLog n tli at most r m) (sym carried) told
read_told n tli at most before after (out.Ended next switch) result m room same told carried =
    subst (λ r. ReadsLog n tli at most r m) (sym carried) told

pub read_refused : (n : LogState) (tli at most : ℕ) (before after : List ℕ) (e : NodeFault) (m : LogState)
    → Reads n tli at before after (Err e) m → ReadsLog n tli at most (Err e) m
read_refused n tli at most before after e m told =
    refused_as (IsReadRefusal n tli at) (CanRead n tli at) (λ answer m. IsRead n tli at before after answer × (m ≡ n))
    (λ answer m. IsLogRead n tli at most answer × (m ≡ n)) (Only n) n e m told

-- the event of a read that is answered or refused by the node
pub read_comes : {D : Type 0} (old new : DiskState) (before : HeldHub D) (after : HeldNode D) (h : HubView) (tli at most : ℕ) (room read_in : List ℕ)
    (answer : Result ReadOut NodeFault) (result : Result LogRead NodeFault) → Holds old before h
    → ((m : LogState) → Reads h.node.log tli at room read_in answer m → ReadsLog h.node.log tli at most result m)
    → (result ≡ Err fault.DiskFault → answer ≡ Err fault.DiskFault)
    → NodeComes answer old new after h.node (OfLog h.node (Reads h.node.log tli at room read_in answer)) (LeftOf h.node (Old h.node.log))
    → Comes result old new (held_with before after before.sync) h (IsReadEvent h tli at most result) (SameLeft h.node)
read_comes old new before after h tli at most room read_in answer result holds leads same comes =
    let goes = comes.goes in
    of_node result old new before after h (OfLog h.node (ReadsLog h.node.log tli at most result)) (SameLeft h.node) holds (record {
      goes = record {
        next = goes.next;
        is = (goes.is.0, leads goes.is.0 goes.is.1, goes.is.2);
        holds = goes.holds;
        moments = goes.moments;
      };
      failed = λ is. comes.failed (same is);
    })

-- no answer that carries something is a failure of the disk
pub carried_sound : (answer : ReadOut) (room : List ℕ) (result : Result LogRead NodeFault) → IsCarried answer room result
    → result ≡ Err fault.DiskFault → ⊥
carried_sound (out.Bytes count) room (Ok x) carried is = cc
carried_sound (out.Bytes count) room (Err e) carried is = let no_way : ◌≡◌ {A = Result LogRead NodeFault} (Err fault.Memory) (Err fault.DiskFault) = ap (λ f. Err f) (sym carried) ∙ is in cc
carried_sound out.AtEnd room result carried is = let no_way : ◌≡◌ {A = Result LogRead NodeFault} (Ok read.AtEnd) (Err fault.DiskFault) = sym carried ∙ is in cc
carried_sound (out.Ended next switch) room result carried is = let no_way : ◌≡◌ {A = Result LogRead NodeFault} (Ok (read.Ended next switch)) (Err fault.DiskFault) = sym carried ∙ is in cc

-- a reply for want of memory
pub read_wants : {D : Type 0} (disk : DiskState) (held : HeldHub D) (h : HubView) (tli at most : ℕ) → h.node.log.broken ≡ false
    → ((image : Folder) → disk.left_since disk.moment image → disk.may_leave image) → Holds disk held h
    → Comes {A = LogRead} (Err fault.Memory) disk disk held h (IsReadEvent h tli at most (Err fault.Memory)) (SameLeft h.node)
read_wants disk held h tli at most sound only holds = record {
  goes = stays disk held h (IsReadEvent h tli at most (Err fault.Memory)) only holds (h.node, (h.node.log, (sound, refl), refl), refl);
  failed = λ is. absurd cc;
}

-- a broken node reads nothing
pub read_broken : {D : Type 0} (disk : DiskState) (held : HeldHub D) (h : HubView) (tli at most : ℕ) → h.node.log.broken ≡ true
    → ((image : Folder) → disk.left_since disk.moment image → disk.may_leave image) → Holds disk held h
    → Comes {A = LogRead} (Err fault.Broken) disk disk held h (IsReadEvent h tli at most (Err fault.Broken)) (SameLeft h.node)
read_broken disk held h tli at most broken only holds = record {
  goes = stays disk held h (IsReadEvent h tli at most (Err fault.Broken)) only holds (h.node, (h.node.log, (broken, refl), refl), refl);
  failed = λ is. absurd cc;
}

-- which it is not, where it says so
pub sound_node : (b : Bool) → (b ≡ true → ⊥) → b ≡ false
sound_node true is = absurd (is refl)
sound_node false is = refl
