-- What `status` does, from what a mount of a node and the writing of the line did.
use Rattle.std.proofs.Common.{◌≡◌, ◌⊎◌, ℕ, List, Some, Result, ◌∙◌, ap, subst, inl, inr}
use Rattle.repl_control.specs.declared.control.TheConstants.{VERSION_1_SIZE}
use Rattle.repl_effects.specs.Counts.{Rose, Stood}
use Rattle.repl_disk.specs.Folder.{Folder, IfTold}
use Rattle.repl_disk.specs.Runs.{told_so, where_told}
use Rattle.repl_disk.specs.State.{DiskState}
use Rattle.repl_io.specs.Sink.{SinkState}
use Rattle.repl_node.specs.Making.{OnlyOpensNode}
use Rattle.repl_slots.specs.SlotFile.{Entry}
use Rattle.repl_slots.specs.Stored.{Stores, slots_name}
use Rattle.repl_exit.specs.declared.damage.DamageReason.{DamageReason}
use Rattle.repl_exit.specs.declared.damage.DamageReason.TheVariants as damage
use Rattle.repl_store.proofs.Mounting.{durable_one}
use Rattle.repl_store.specs.Backing.{OnlyReads}
use Rattle.repl_store.specs.Durable.{Durable, StandsFor}
use Rattle.repl_store.specs.Head.{Head, IsMounted}
use Rattle.repl_store.specs.Head as head
use Rattle.repl_admin.proofs.Past.{tail_right}
use Rattle.repl_admin.proofs.Ending.{done_of, printed_ends, printed_faults}
use Rattle.repl_admin.proofs.Slotting.{slots_apart}
use Rattle.repl_admin.proofs.Standing.{status_same, undamaged}
use Rattle.repl_admin.specs.Files.{AreSettled, HasSlots, HasWrongSlots, TailFits}
use Rattle.repl_admin.specs.Lines.{status_line}
use Rattle.repl_admin.specs.Printing.{IsPrinted}
use Rattle.repl_admin.specs.Tending.{Ends, HasWrongTail, IsCalm, IsDamagedNode, IsNode, Stated, TellsFaults, node_line}
use Rattle.repl_admin.specs.declared.tended.Tended.{Tended}
use Rattle.repl_admin.specs.declared.tended.Tended.TheVariants as tended
use Rattle.repl_wal.specs.State.{identity_in}
use Rattle.repl_wal.specs.declared.fault.NodeFault.{NodeFault}
use Rattle.repl_wal.specs.declared.wal.Identity.{Identity}

-- ---- a node

-- no damage can be told of files that stand for a node
undamaged_node : (disk : DiskState) (folder : Folder) (d : Durable) → AreSettled disk folder → IsNode disk folder d → (name : List ℕ)
    (place : ℕ) (why : DamageReason) → IsDamagedNode disk folder name place why → ⊥
undamaged_node disk folder d settled is name place why (inl bad) = undamaged folder d is.stands is.slots name place why bad
undamaged_node disk folder d settled is name place why (inr (other, stands, slots, wrong)) =
    let same = durable_one VERSION_1_SIZE folder other d stands is.stands in
    let tail = subst (λ (x : Durable). HasWrongTail x name place why) same (wrong settled) in
    tail_right folder d is.stands (is.tail settled) tail.0 tail.1

module _ (end : Tended) (old new : DiskState) (w w' : SinkState) where
  abbrev pub EndsAt : Folder → Type 0
  EndsAt folder = Ends (IsNode old folder) node_line ⊥ (IsDamagedNode old folder) (AreSettled old folder → Rose old.faults new.faults) end w w'

  abbrev pub TellsSlots : Type 0
  TellsSlots = (folder : Folder) (place : ℕ) → old.files ≡ Some folder → HasWrongSlots folder place → IsCalm old new w w'
      → (end ≡ tended.Damaged slots_name place damage.Slots) ⊎ (end ≡ tended.Memory)

  pub stated_of : IfTold old.files EndsAt → OnlyReads old new → TellsFaults end old new w w'
      → TellsSlots → Stated end old new w w'
  stated_of ends only faults slots = record {
    ends = ends;
    only = only;
    faults = faults;
    complete = λ folder d told settled is calm.
        done_of (IsNode old folder) node_line ⊥ (IsDamagedNode old folder) (AreSettled old folder → Rose old.faults new.faults) end w w'
        (told_so old.files folder EndsAt told ends) (λ rose. calm.0 (rose settled)) calm.1 (undamaged_node old folder d settled is) (λ none. none);
    slots = slots;
  }

-- what a crash would leave
pub images_of : (disk : DiskState) (folder : Folder) (d : Durable) (saved : List Entry) → StandsFor VERSION_1_SIZE folder d → Stores saved folder
    → AreSettled disk folder → (image : Folder) → disk.may_leave image → StandsFor VERSION_1_SIZE image d × Stores saved image
images_of disk folder d saved stands stored settled image now = (settled.log d image stands now, settled.slots saved image stored now)

-- a mount said what it leaves of a node, where a crash leaves nothing else
abbrev pub OpensOnly : {A : Type 0} → Result A NodeFault → DiskState → DiskState → Type 0
OpensOnly result old new = (folder : Folder) (d : Durable) (saved : List Entry) → old.files ≡ Some folder → StandsFor VERSION_1_SIZE folder d
    → ((image : Folder) → old.may_leave image → StandsFor VERSION_1_SIZE image d × Stores saved image)
    → OnlyOpensNode result old new VERSION_1_SIZE d saved

-- ---- it is told

pub mounted_stated : (h : Head) (identity : Identity) (end : Tended) (old new : DiskState) (w w' : SinkState)
    → IfTold old.files (λ folder. (d : Durable) × StandsFor VERSION_1_SIZE folder d × IsMounted h VERSION_1_SIZE d) → IfTold old.files HasSlots
    → ((folder : Folder) (d : Durable) → old.files ≡ Some folder → StandsFor VERSION_1_SIZE folder d → AreSettled old folder → TailFits d)
    → identity ≡ identity_in (head.status_of h) → OnlyReads old new → Stood old.faults new.faults
    → IsPrinted (status_line identity) end w w' → Stated end old new w w'
mounted_stated h identity end old new w w' mounted slots tail line only stood printed =
    let found : (folder : Folder) → old.files ≡ Some folder → (d : Durable) × StandsFor VERSION_1_SIZE folder d × IsMounted h VERSION_1_SIZE d =
    λ folder told. told_so old.files folder (λ f. (d : Durable) × StandsFor VERSION_1_SIZE f d × IsMounted h VERSION_1_SIZE d) told mounted in
    let has : (folder : Folder) → old.files ≡ Some folder → HasSlots folder = λ folder told. told_so old.files folder HasSlots told slots in
    stated_of end old new w w'
    (where_told old.files (EndsAt end old new w w') (λ folder told.
    let d = found folder told in
    let is : IsNode old folder d.0 = record { stands = d.1; slots = has folder told; tail = tail folder d.0 told d.1 } in
    printed_ends (IsNode old folder) node_line ⊥ (IsDamagedNode old folder) (AreSettled old folder → Rose old.faults new.faults) d.0 end w w' is
    (subst (λ (i : Identity). IsPrinted (status_line i) end w w') (line ∙ ap identity_in (status_same h d.0 d.2)) printed)))
    only
    (printed_faults (status_line identity) end old new w w' printed stood)
    (λ folder place told wrong calm. absurd (slots_apart folder place (has folder told) wrong))
