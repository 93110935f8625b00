-- From what a store answered, and from how the writing ended, to how a command ends; and which ends are left, once nothing is
-- faulty.
use Rattle.std.proofs.Common.{All, ◌≡◌, ◌⊎◌, ℕ, List, false, Err, refl, sym, ◌∙◌, ap, subst, inl, inr, ⊎_elim, arith}
use Rattle.repl_control.specs.declared.control.TheConstants.{VERSION_1_SIZE}
use Rattle.repl_effects.specs.Counts.{DidNotFall, Rose, Stood}
use Rattle.repl_disk.specs.Folder.{Folder, IfTold, ToldFiles}
use Rattle.repl_disk.specs.State.{DiskState}
use Rattle.repl_io.specs.Sink.{SinkState, Sends}
use Rattle.repl_io.specs.declared.sink.Sent.{Sent}
use Rattle.repl_io.specs.declared.sink.Sent.TheVariants as sent
use Rattle.repl_node.specs.Making.{IsBeforeSlots, IsFirstRefusal, IsJudged, IsOfSlots}
use Rattle.repl_slots.specs.SlotFile.{IsMounted, entries_of}
use Rattle.repl_slots.specs.Stored.{Stores, slots_name}
use Rattle.repl_slots.specs.declared.slot.Slot.{Slot}
use Rattle.repl_store.proofs.Mounting.{told_map}
use Rattle.repl_exit.specs.declared.damage.DamageReason.{DamageReason}
use Rattle.repl_exit.specs.declared.damage.DamageReason.TheVariants as damage
use Rattle.repl_store.specs.Backing.{Asks}
use Rattle.repl_store.specs.Durable.{control_name}
use Rattle.repl_store.specs.Refusal.{IsOfMount, IsRefusal}
use Rattle.repl_store.specs.declared.fault.StoreFault.{StoreFault}
use Rattle.repl_store.specs.declared.fault.StoreFault.TheVariants as fault
use Rattle.repl_admin.specs.Damages.{IsDamagedOr, IsToldOf, IsToldOfNode, IsToldOfSlots}
use Rattle.repl_admin.specs.Files.{HasSlots}
use Rattle.repl_admin.specs.Printing.{IsPrinted}
use Rattle.repl_admin.specs.Tending.{Damage, Ends, IsCalm, IsDamaged, IsDone, TellsFaults, is_write_fault, sent_end}
use Rattle.repl_admin.specs.declared.tended.Tended.{Tended}
use Rattle.repl_admin.specs.declared.tended.Tended.TheVariants as tended
use Rattle.repl_wal.specs.Faults.{of_store}
use Rattle.repl_wal.specs.declared.fault.NodeFault.{NodeFault}
use Rattle.repl_wal.specs.declared.fault.NodeFault.TheVariants as node

-- ---- faults

-- of an end that no fault is the cause of
pub calm_faults : (end : Tended) (old new : DiskState) (w : SinkState) → (end ≡ tended.DiskFault → ⊥) → is_write_fault end ≡ false
    → Stood old.faults new.faults → TellsFaults end old new w w
calm_faults end old new w other quiet stood = record {
  disk = λ is. absurd (other is);
  calm = inr stood;
  sink = rw quiet refl;
}

pub memory_faults : (end : Tended) (old new : DiskState) (w : SinkState) → end ≡ tended.Memory → Stood old.faults new.faults
    → TellsFaults end old new w w
memory_faults end old new w is stood =
    let P : Tended → Type 0 = λ t. TellsFaults t old new w w in
    subst P (sym is) (calm_faults tended.Memory old new w (λ same. absurd cc) refl stood)

damage_faults : (name : List ℕ) (place : ℕ) (why : DamageReason) (end : Tended) (old new : DiskState) (w : SinkState)
    → end ≡ tended.Damaged name place why → Stood old.faults new.faults → TellsFaults end old new w w
damage_faults name place why end old new w is stood =
    let P : Tended → Type 0 = λ t. TellsFaults t old new w w in
    subst P (sym is) (calm_faults (tended.Damaged name place why) old new w (λ same. absurd cc) refl stood)

pub damaged_faults : (name : List ℕ) (place : ℕ) (why : DamageReason) (end : Tended) (old new : DiskState) (w : SinkState)
    → IsDamagedOr name place why end → Stood old.faults new.faults → TellsFaults end old new w w
damaged_faults name place why end old new w (inl is) stood = damage_faults name place why end old new w is stood
damaged_faults name place why end old new w (inr is) stood = memory_faults end old new w is stood

pub disk_faults : (end : Tended) (old new : DiskState) (w : SinkState) → end ≡ tended.DiskFault
    → Rose old.faults new.faults ⊎ Rose old.lacks new.lacks → TellsFaults end old new w w
disk_faults end old new w is rose = record {
  disk = λ _. rose;
  calm = inl is;
  sink = rw is refl;
}

-- Of a refusal: that the disk failed is told where it did, and no other is told over a failure.
pub refusal_faults : (end : Tended) (old new : DiskState) (w : SinkState) → is_write_fault end ≡ false
    → (end ≡ tended.DiskFault → Rose old.faults new.faults ⊎ Rose old.lacks new.lacks)
    → (end ≡ tended.DiskFault) ⊎ Stood old.faults new.faults → TellsFaults end old new w w
refusal_faults end old new w quiet failed others = record {
  disk = failed;
  calm = others;
  sink = rw quiet refl;
}

-- a store's refusal is told as it is where it is a node's
pub told_as : (f : StoreFault) (end : Tended) → IsToldOfNode (of_store f) end → IsToldOf f end
told_as fault.Broken end is = is
told_as fault.Exists end is = is
told_as (fault.Missing name) end is = is
told_as (fault.BadControl place) end is = is
told_as (fault.BadHistory tli wrong) end is = is
told_as (fault.ShortFile name have wanted) end is = is
told_as fault.DiskFault end is = is
told_as fault.Memory end is = is

-- this is damage, or memory was wanting
pub damaged_quiet : (name : List ℕ) (place : ℕ) (why : DamageReason) (end : Tended) → IsDamagedOr name place why end → is_write_fault end ≡ false
damaged_quiet name place why end (inl is) = ap is_write_fault is
damaged_quiet name place why end (inr is) = ap is_write_fault is

pub damaged_other : (name : List ℕ) (place : ℕ) (why : DamageReason) (end : Tended) → IsDamagedOr name place why end → end ≡ tended.DiskFault → ⊥
damaged_other name place why end (inl is) failed = let same : tended.Damaged name place why ≡ tended.DiskFault = sym is ∙ failed in cc
damaged_other name place why end (inr is) failed = let same : tended.Memory ≡ tended.DiskFault = sym is ∙ failed in cc

pub refused_quiet : (e : StoreFault) (end : Tended) → IsToldOf e end → is_write_fault end ≡ false
refused_quiet fault.Broken end is = ap is_write_fault is
refused_quiet fault.Exists end is = ap is_write_fault is
refused_quiet (fault.Missing name) end is = ap is_write_fault is
refused_quiet (fault.BadControl place) end is = damaged_quiet control_name place damage.Control end is
refused_quiet (fault.BadHistory tli wrong) end is = damaged_quiet _ _ (damage.History wrong) end is
refused_quiet (fault.ShortFile name have wanted) end is = ap is_write_fault is
refused_quiet fault.DiskFault end is = ap is_write_fault is
refused_quiet fault.Memory end is = ap is_write_fault is

-- the disk's failure alone is told as one
pub refused_failed : (e : StoreFault) (end : Tended) → IsOfMount e → IsToldOf e end → end ≡ tended.DiskFault → e ≡ fault.DiskFault
refused_failed fault.Broken end answer is failed = absurd answer
refused_failed fault.Exists end answer is failed = absurd answer
refused_failed (fault.Missing name) end answer is failed =
    absurd (let same : tended.Damaged name 0 damage.Missing ≡ tended.DiskFault = sym is ∙ failed in cc)
refused_failed (fault.BadControl place) end answer is failed = absurd (damaged_other control_name place damage.Control end is failed)
refused_failed (fault.BadHistory tli wrong) end answer is failed = absurd (damaged_other _ _ (damage.History wrong) end is failed)
refused_failed (fault.ShortFile name have wanted) end answer is failed =
    absurd (let same : tended.Damaged name have damage.Short ≡ tended.DiskFault = sym is ∙ failed in cc)
refused_failed fault.DiskFault end answer is failed = refl
refused_failed fault.Memory end answer is failed = absurd (let same : tended.Memory ≡ tended.DiskFault = sym is ∙ failed in cc)

pub failure_told : (e : StoreFault) (end : Tended) → IsToldOf e end → e ≡ fault.DiskFault → end ≡ tended.DiskFault
failure_told e end is same = let P : StoreFault → Type 0 = λ f. IsToldOf f end in subst P same is

-- ---- what a node refuses before it opens its log

pub early_quiet : (e : NodeFault) (end : Tended) → IsOfSlots e → IsToldOfNode e end → is_write_fault end ≡ false
early_quiet (node.Missing name) end answer is = ap is_write_fault is
early_quiet (node.BadControl place) end answer is = damaged_quiet control_name place damage.Control end is
early_quiet (node.BadSlots place) end answer is = damaged_quiet slots_name place damage.Slots end is
early_quiet node.DiskFault end answer is = ap is_write_fault is
early_quiet node.Memory end answer is = ap is_write_fault is
early_quiet e end answer is = absurd answer

pub early_failed : (e : NodeFault) (end : Tended) → IsOfSlots e → IsToldOfNode e end → end ≡ tended.DiskFault → e ≡ node.DiskFault
early_failed (node.Missing name) end answer is failed =
    absurd (let same : tended.Damaged name 0 damage.Missing ≡ tended.DiskFault = sym is ∙ failed in cc)
early_failed (node.BadControl place) end answer is failed = absurd (damaged_other control_name place damage.Control end is failed)
early_failed (node.BadSlots place) end answer is failed = absurd (damaged_other slots_name place damage.Slots end is failed)
early_failed node.DiskFault end answer is failed = refl
early_failed node.Memory end answer is failed = absurd (let same : tended.Memory ≡ tended.DiskFault = sym is ∙ failed in cc)
early_failed e end answer is failed = absurd answer

pub node_failure_told : (e : NodeFault) (end : Tended) → IsToldOfNode e end → e ≡ node.DiskFault → end ≡ tended.DiskFault
node_failure_told e end is same = let P : NodeFault → Type 0 = λ f. IsToldOfNode f end in subst P same is

-- what is told of slots that were refused
pub slots_told : (e : NodeFault) (end : Tended) (old new : DiskState) → IsToldOfNode e end
    → IfTold old.files (λ folder. IsFirstRefusal VERSION_1_SIZE folder e) → IsOfSlots e → IsJudged {A = Unit {0}} (Err e) old new
    → IsToldOfSlots end old new
slots_told e end old new told refused answers caused = record { fault = e; told = told; refused = refused; answers = answers; caused = caused }

-- slots that were read are stored
pub slots_right : (told : ToldFiles) (slots : List Slot) → IfTold told (λ folder. All IsMounted slots × Stores (entries_of slots) folder)
    → IfTold told HasSlots
slots_right told slots mounted =
    told_map told (λ folder. All IsMounted slots × Stores (entries_of slots) folder) HasSlots (λ folder stored. (entries_of slots, stored.1)) mounted

-- ---- what a mount answers

pub refused_faults : {A : Type 0} (e : StoreFault) (end : Tended) (old new : DiskState) (w : SinkState) → IsOfMount e → IsToldOf e end
    → Asks {A = A} (Err e) old new → TellsFaults end old new w w
refused_faults {A} e end old new w answer is asks =
    refusal_faults end old new w (refused_quiet e end is)
    (λ failed. ⊎_elim inl (λ lack. inr lack.1) (asks.failed (ap (λ f. Err f) (refused_failed e end answer is failed))))
    (⊎_elim (λ same. inl (failure_told e end is same)) inr asks.others)

-- of lines that were written
pub printed_faults : (text : List ℕ) (end : Tended) (old new : DiskState) (w w' : SinkState) → IsPrinted text end w w'
    → Stood old.faults new.faults → TellsFaults end old new w w'
printed_faults text end old new w w' (inl written) stood =
    let P : Tended → Type 0 = λ t. TellsFaults t old new w w' in subst P (sym written.1) (by_sent written.0 written.2)
  where
    by_sent : (s : Sent) → Sends s text w w' → TellsFaults (sent_end s) old new w w'
    by_sent sent.All sends = record { disk = λ is. absurd cc; calm = inr stood; sink = sends.faults }
    by_sent sent.Failed sends = record { disk = λ is. absurd cc; calm = inr stood; sink = sends.faults }
    by_sent sent.Memory sends = record { disk = λ is. absurd cc; calm = inr stood; sink = sends.faults }
printed_faults text end old new w w' (inr none) stood =
    let P : SinkState → Type 0 = λ v. TellsFaults end old new w v in subst P (sym none.1) (memory_faults end old new w none.0 stood)

-- ---- ends

module _ {X : Type 0} (Is : X → Type 0) (text : X → List ℕ) (IsThere : Type 0) (Bad : Damage) (Failed : Type 0) where
  abbrev EndsSo : Tended → SinkState → SinkState → Type 0
  EndsSo end w w' = Ends Is text IsThere Bad Failed end w w'

  pub memory_ends : (end : Tended) (w : SinkState) → end ≡ tended.Memory → EndsSo end w w
  memory_ends end w is = rw is (inl refl)

  pub damage_ends : (name : List ℕ) (place : ℕ) (why : DamageReason) (end : Tended) (w : SinkState)
      → end ≡ tended.Damaged name place why → Bad name place why → EndsSo end w w
  damage_ends name place why end w is bad = rw is ((bad, refl))

  pub damaged_ends : (name : List ℕ) (place : ℕ) (why : DamageReason) (end : Tended) (w : SinkState)
      → IsDamagedOr name place why end → Bad name place why → EndsSo end w w
  damaged_ends name place why end w (inl is) bad = damage_ends name place why end w is bad
  damaged_ends name place why end w (inr is) bad = memory_ends end w is

  pub disk_ends : (end : Tended) (w : SinkState) → end ≡ tended.DiskFault → Failed → EndsSo end w w
  disk_ends end w is failed = rw is ((failed, refl))

  -- the lines of this were written
  pub printed_ends : (x : X) (end : Tended) (w w' : SinkState) → Is x → IsPrinted (text x) end w w' → EndsSo end w w'
  printed_ends x end w w' is (inl written) =
      let P : Tended → Type 0 = λ t. EndsSo t w w' in subst P (sym written.1) (by_sent written.0 written.2)
    where
      by_sent : (s : Sent) → Sends s (text x) w w' → EndsSo (sent_end s) w w'
      by_sent sent.All sends = (x, is, sends.moved)
      by_sent sent.Failed sends = (sends.faults, (x, is, sends.moved))
      by_sent sent.Memory sends = inr (sends.wants, (x, is, sends.moved))
  printed_ends x end w w' is (inr none) =
      let P : SinkState → Type 0 = λ v. EndsSo end w v in subst P (sym none.1) (memory_ends end w none.0)

  -- the files were refused
  pub refused_ends : (folder : Folder) (e : StoreFault) (end : Tended) (w : SinkState) → IsToldOf e end → IsRefusal VERSION_1_SIZE folder e
      → IsBeforeSlots e ⊎ HasSlots folder → (e ≡ fault.DiskFault → Failed)
      → ((name : List ℕ) (place : ℕ) (why : DamageReason) → IsDamaged folder name place why → Bad name place why) → EndsSo end w w
  refused_ends folder fault.Broken end w is wrong before rose bad = absurd wrong
  refused_ends folder fault.Exists end w is wrong before rose bad = absurd wrong
  refused_ends folder (fault.Missing name) end w is wrong before rose bad =
      damage_ends name 0 damage.Missing end w is (bad name 0 damage.Missing (inr (fault.Missing name, before, wrong, (refl, refl, refl))))
  refused_ends folder (fault.BadControl place) end w is wrong before rose bad =
      damaged_ends control_name place damage.Control end w is
      (bad control_name place damage.Control (inr (fault.BadControl place, before, wrong, (refl, refl, refl))))
  refused_ends folder (fault.BadHistory tli found) end w is wrong before rose bad =
      damaged_ends _ _ (damage.History found) end w is (bad _ _ (damage.History found) (inr (fault.BadHistory tli found, before, wrong, (refl, refl, refl))))
  refused_ends folder (fault.ShortFile name have wanted) end w is wrong before rose bad =
      damage_ends name have damage.Short end w is
      (bad name have damage.Short (inr (fault.ShortFile name have wanted, before, wrong, (refl, refl, refl))))
  refused_ends folder fault.DiskFault end w is wrong before rose bad = disk_ends end w is (rose refl)
  refused_ends folder fault.Memory end w is wrong before rose bad = memory_ends end w is

  -- the control or the slots were refused
  pub early_ends : (folder : Folder) (e : NodeFault) (end : Tended) (w : SinkState) → IsToldOfNode e end → IsFirstRefusal VERSION_1_SIZE folder e
      → (e ≡ node.DiskFault → Failed)
      → ((name : List ℕ) (place : ℕ) (why : DamageReason) → IsDamaged folder name place why → Bad name place why) → EndsSo end w w
  early_ends folder e end w is (inl (f, same, before, wrong)) rose bad =
      refused_ends folder f end w (told_as f end (subst (λ (x : NodeFault). IsToldOfNode x end) same is)) wrong (inl before)
      (λ failed. rose (same ∙ ap of_store failed)) bad
  early_ends folder e end w is (inr (place, same, control, file)) rose bad =
      damaged_ends slots_name place damage.Slots end w (subst (λ (x : NodeFault). IsToldOfNode x end) same is)
      (bad slots_name place damage.Slots (inl ((control, file), refl, refl)))

  -- which ends are left, where nothing is faulty and no damage can be told
  pub done_of : (end : Tended) (w w' : SinkState) → EndsSo end w w' → (Failed → ⊥) → (Rose w.faults w'.faults → ⊥)
      → ((name : List ℕ) (place : ℕ) (why : DamageReason) → Bad name place why → ⊥) → (IsThere → ⊥) → IsDone end
  done_of tended.Done w w' ends still quiet fine none = inl refl
  done_of (tended.Damaged name place why) w w' ends still quiet fine none = absurd (fine name place why ends.0)
  done_of tended.Exists w w' ends still quiet fine none = absurd (none ends.0)
  done_of tended.DiskFault w w' ends still quiet fine none = absurd (still ends.0)
  done_of tended.WriteFault w w' ends still quiet fine none = absurd (quiet ends.0)
  done_of tended.Memory w w' ends still quiet fine none = inr refl

-- ---- calls before it that only read

pub ends_past : {X : Type 0} (Is : X → Type 0) (text : X → List ℕ) (IsThere : Type 0) (Bad : Damage) (Failed More : Type 0) (end : Tended)
    (w w' : SinkState) → (Failed → More) → Ends Is text IsThere Bad Failed end w w' → Ends Is text IsThere Bad More end w w'
ends_past Is text IsThere Bad Failed More tended.Done w w' more ends = ends
ends_past Is text IsThere Bad Failed More (tended.Damaged name place why) w w' more ends = ends
ends_past Is text IsThere Bad Failed More tended.Exists w w' more ends = ends
ends_past Is text IsThere Bad Failed More tended.DiskFault w w' more ends = (more ends.0, ends.1)
ends_past Is text IsThere Bad Failed More tended.WriteFault w w' more ends = ends
ends_past Is text IsThere Bad Failed More tended.Memory w w' more ends = ends

pub faults_past : (end : Tended) (old mid new : DiskState) (w w' : SinkState) → Stood old.faults mid.faults → DidNotFall old.lacks mid.lacks
    → TellsFaults end mid new w w' → TellsFaults end old new w w'
faults_past end old mid new w w' stood lacks faults = record {
  disk = λ is. ⊎_elim (λ rose. inl (subst (λ n. Rose n new.faults) stood rose)) (λ lack. inr (omega (arith, lack, lacks))) (faults.disk is);
  calm = ⊎_elim inl (λ still. inr (still ∙ stood)) faults.calm;
  sink = faults.sink;
}

pub calm_past : (old mid new : DiskState) (w w' : SinkState) → Stood old.faults mid.faults → IsCalm old new w w' → IsCalm mid new w w'
calm_past old mid new w w' stood calm = (λ rose. calm.0 (subst (λ n. Rose n new.faults) stood rose), calm.1)
