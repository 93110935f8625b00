-- What `status` does where the mount of a node is refused.
use Rattle.std.proofs.Common.{◌≡◌, ◌⊎◌, ◌%◌, ◌/◌, ℕ, List, Some, is_some, false, Err, refl, sym, ◌∙◌, ap, subst, inl, inr, ⊎_elim, arith}
use Rattle.repl_control.specs.declared.control.TheConstants.{VERSION_1_SIZE}
use Rattle.repl_effects.specs.Counts.{Rose, Stood}
use Rattle.repl_disk.specs.Folder.{Folder, IfTold}
use Rattle.repl_disk.specs.Runs.{told_so, where_told}
use Rattle.repl_disk.specs.State.{DiskState, GoesOn}
use Rattle.repl_io.specs.Sink.{SinkState}
use Rattle.repl_node.specs.Making.{IsNodeRefusal, IsOfNodeMount}
use Rattle.repl_record.specs.declared.answer.WalkReason.{WalkReason}
use Rattle.repl_slots.specs.SlotFile.{Entry}
use Rattle.repl_slots.specs.Stored.{Stores, slots_name}
use Rattle.repl_exit.specs.declared.damage.DamageReason.{DamageReason}
use Rattle.repl_exit.specs.declared.damage.DamageReason.TheVariants as damage
use Rattle.repl_node.proofs.Begun.{some_folder}
use Rattle.repl_store.proofs.Asking.{reads_then}
use Rattle.repl_store.specs.Backing.{OnlyReads}
use Rattle.repl_store.specs.Durable.{Durable, StandsFor, control_name, segment_file}
use Rattle.repl_store.specs.declared.fault.StoreFault.{StoreFault}
use Rattle.repl_store.specs.declared.fault.StoreFault.TheVariants as fault
use Rattle.repl_admin.proofs.Ending.{damage_ends, damaged_ends, damaged_other, damaged_quiet, disk_ends, early_ends, memory_ends, node_failure_told, refusal_faults, refused_ends, told_as}
use Rattle.repl_admin.proofs.Slotting.{early_slots, slots_apart}
use Rattle.repl_admin.proofs.Stating.{EndsAt, OpensOnly, TellsSlots, images_of, stated_of}
use Rattle.repl_admin.specs.Damages.{IsDamageOrFailure, IsDamagedOr, IsToldOfLog, IsToldOfMount, IsToldOfNode}
use Rattle.repl_admin.specs.Files.{AreSettled}
use Rattle.repl_admin.specs.Tending.{Ends, HasWrongTail, IsDamagedNode, IsNode, Stated, is_write_fault, node_line}
use Rattle.repl_admin.specs.declared.tended.Tended.{Tended}
use Rattle.repl_admin.specs.declared.tended.Tended.TheVariants as tended
use Rattle.repl_wal.specs.Faults.{of_store}
use Rattle.repl_wal.specs.Making.{IsOpened, IsWrongTail}
use Rattle.repl_wal.specs.declared.fault.NodeFault.{NodeFault}
use Rattle.repl_wal.specs.declared.fault.NodeFault.TheVariants as node

-- what stands before the log is right
abbrev pub Stands : Folder → Type 0
Stands folder = (d : Durable) × (saved : List Entry) × StandsFor VERSION_1_SIZE folder d × Stores saved folder

-- a fault that names its file itself
abbrev IsPlain : NodeFault → Type 0
IsPlain (node.Damaged at why) = ⊥
IsPlain e = Unit {0}

-- ---- how it is told

plain_quiet : (e : NodeFault) (end : Tended) → IsToldOfNode e end → IsOfNodeMount e → is_write_fault end ≡ false
plain_quiet (node.Missing name) end is answer = ap is_write_fault is
plain_quiet (node.BadControl place) end is answer = damaged_quiet _ place damage.Control end is
plain_quiet (node.BadSlots place) end is answer = damaged_quiet _ place damage.Slots end is
plain_quiet (node.BadHistory tli wrong) end is answer = damaged_quiet _ _ (damage.History wrong) end is
plain_quiet (node.ShortFile name have wanted) end is answer = ap is_write_fault is
plain_quiet (node.Damaged at why) end is answer = ap is_write_fault is
plain_quiet node.DiskFault end is answer = ap is_write_fault is
plain_quiet node.Memory end is answer = ap is_write_fault is
plain_quiet e end is answer = absurd answer

plain_failed : (e : NodeFault) (end : Tended) → IsToldOfNode e end → IsOfNodeMount e → IsPlain e → end ≡ tended.DiskFault → e ≡ node.DiskFault
plain_failed (node.Missing name) end is answer plain failed =
    absurd (let same : tended.Damaged name 0 damage.Missing ≡ tended.DiskFault = sym is ∙ failed in cc)
plain_failed (node.BadControl place) end is answer plain failed = absurd (damaged_other _ place damage.Control end is failed)
plain_failed (node.BadSlots place) end is answer plain failed = absurd (damaged_other _ place damage.Slots end is failed)
plain_failed (node.BadHistory tli wrong) end is answer plain failed = absurd (damaged_other _ _ (damage.History wrong) end is failed)
plain_failed (node.ShortFile name have wanted) end is answer plain failed =
    absurd (let same : tended.Damaged name have damage.Short ≡ tended.DiskFault = sym is ∙ failed in cc)
plain_failed (node.Damaged at why) end is answer plain failed = absurd plain
plain_failed node.DiskFault end is answer plain failed = refl
plain_failed node.Memory end is answer plain failed = absurd (let same : tended.Memory ≡ tended.DiskFault = sym is ∙ failed in cc)
plain_failed e end is answer plain failed = absurd answer

failure_quiet : (end : Tended) → IsDamageOrFailure end → is_write_fault end ≡ false
failure_quiet (tended.Damaged name place why) kind = refl
failure_quiet tended.DiskFault kind = refl
failure_quiet tended.Memory kind = refl
failure_quiet end kind = absurd kind

-- either it names its file itself, or the log is wrong past the whole end
split : (e : NodeFault) (end : Tended) (Same : Type 0) (mid new : DiskState) → IsToldOfMount e end Same mid new
    → (IsPlain e × IsToldOfNode e end × Same)
    ⊎ ((at : ℕ) × (why : WalkReason) × (e ≡ node.Damaged at why) × IsToldOfLog at why end mid new)
split (node.Damaged at why) end Same mid new told = inr (at, why, refl, told)
split e end Same mid new told = inl (tt, told.0, told.1)

-- ---- how it ends

-- after right slots the log is refused
module _ (old : DiskState) (folder : Folder) (d : Durable) (saved : List Entry) (stands : StandsFor VERSION_1_SIZE folder d)
    (stored : Stores saved folder) (Failed : Type 0) where
  abbrev BadNode : List ℕ → ℕ → DamageReason → Type 0
  BadNode name place why = IsDamagedNode old folder name place why

  abbrev EndsSo : Tended → SinkState → Type 0
  EndsSo end w = Ends (IsNode old folder) node_line ⊥ (IsDamagedNode old folder) Failed end w w

  -- what is known of the tail where a crash would leave what the disk has
  abbrev IsWrong : NodeFault → Type 0
  IsWrong e = ((image : Folder) → old.may_leave image → StandsFor VERSION_1_SIZE image d) → IsWrongTail VERSION_1_SIZE d e

  bad_tail : (e : NodeFault) (name : List ℕ) (place : ℕ) (why : DamageReason) → IsWrong e
      → (IsWrongTail VERSION_1_SIZE d e → HasWrongTail d name place why) → BadNode name place why
  bad_tail e name place why wrong is =
      inr (d, stands, (saved, stored), λ settled. is (wrong (λ image now. settled.log d image stands now)))

  tail_ends : (e : NodeFault) (end : Tended) (w : SinkState) → IsToldOfNode e end → IsOfNodeMount e → IsPlain e → IsWrong e
      → (e ≡ node.DiskFault → Failed) → EndsSo end w
  tail_ends (node.Missing name) end w is answer plain wrong failed =
      damage_ends (IsNode old folder) node_line ⊥ (IsDamagedNode old folder) Failed name 0 damage.Missing end w is
      (bad_tail (node.Missing name) name 0 damage.Missing wrong (λ none. absurd none))
  tail_ends (node.BadControl place) end w is answer plain wrong failed =
      damaged_ends (IsNode old folder) node_line ⊥ (IsDamagedNode old folder) Failed control_name place damage.Control end w is
      (bad_tail (node.BadControl place) control_name place damage.Control wrong (λ tail. (node.BadControl place, tail, (refl, refl, refl))))
  tail_ends (node.BadSlots place) end w is answer plain wrong failed =
      damaged_ends (IsNode old folder) node_line ⊥ (IsDamagedNode old folder) Failed slots_name place damage.Slots end w is
      (bad_tail (node.BadSlots place) slots_name place damage.Slots wrong (λ none. absurd none))
  tail_ends (node.BadHistory tli found) end w is answer plain wrong failed =
      damaged_ends (IsNode old folder) node_line ⊥ (IsDamagedNode old folder) Failed _ _ (damage.History found) end w is
      (bad_tail (node.BadHistory tli found) _ _ (damage.History found) wrong (λ none. absurd none))
  tail_ends (node.ShortFile name have wanted) end w is answer plain wrong failed =
      damage_ends (IsNode old folder) node_line ⊥ (IsDamagedNode old folder) Failed name have damage.Short end w is
      (bad_tail (node.ShortFile name have wanted) name have damage.Short wrong (λ none. absurd none))
  tail_ends (node.Damaged at why) end w is answer plain wrong failed = absurd plain
  tail_ends node.DiskFault end w is answer plain wrong failed =
      disk_ends (IsNode old folder) node_line ⊥ (IsDamagedNode old folder) Failed end w is (failed refl)
  tail_ends node.Memory end w is answer plain wrong failed =
      memory_ends (IsNode old folder) node_line ⊥ (IsDamagedNode old folder) Failed end w is
  tail_ends e end w is answer plain wrong failed = absurd answer

  -- the file with this position is named
  abbrev Named : ℕ → WalkReason → Tended → Type 0
  Named at why end = IsDamagedOr (segment_file VERSION_1_SIZE d.path (at / VERSION_1_SIZE)) (at % VERSION_1_SIZE) (damage.Bad why) end

  -- the damage that is told is that
  bad_named : (at : ℕ) (reason : WalkReason) (name : List ℕ) (place : ℕ) (why : DamageReason) → IsWrongTail VERSION_1_SIZE d (node.Damaged at reason)
      → Named at reason (tended.Damaged name place why) → HasWrongTail d name place why
  bad_named at reason name place why tail (inl is) =
      let named : name ≡ segment_file VERSION_1_SIZE d.path (at / VERSION_1_SIZE) = cc in
      let placed : place ≡ at % VERSION_1_SIZE = cc in
      let reasoned : why ≡ damage.Bad reason = cc in
      (node.Damaged at reason, tail, (named, placed, reasoned))
  bad_named at reason name place why tail (inr is) = absurd cc

  -- the log is wrong past the whole end
  log_ends : (at : ℕ) (reason : WalkReason) (end : Tended) (w : SinkState) → IsWrong (node.Damaged at reason) → IsDamageOrFailure end
      → (AreSettled old folder → Named at reason end ⊎ (end ≡ tended.DiskFault)) → (end ≡ tended.DiskFault → Failed) → EndsSo end w
  log_ends at reason (tended.Damaged name place why) w wrong kind named failed = (
    inr (
      d,
      stands,
      (saved, stored),
      λ settled.
          ⊎_elim (λ is. bad_named at reason name place why (wrong (λ image now. settled.log d image stands now)) is) (λ is. absurd cc) (named settled),
    ),
    refl,
  )
  log_ends at reason tended.DiskFault w wrong kind named failed = (failed refl, refl)
  log_ends at reason tended.Memory w wrong kind named failed = inl refl
  log_ends at reason end w wrong kind named failed = absurd kind

-- no store tells that its log is wrong
no_store : (f : StoreFault) (at : ℕ) (why : WalkReason) → node.Damaged at why ≡ of_store f → ⊥
no_store fault.Broken at why same = cc
no_store fault.Exists at why same = cc
no_store (fault.Missing name) at why same = cc
no_store (fault.BadControl place) at why same = cc
no_store (fault.BadHistory tli wrong) at why same = cc
no_store (fault.ShortFile name have wanted) at why same = cc
no_store fault.DiskFault at why same = cc
no_store fault.Memory at why same = cc

-- it was refused so, and the log is after right slots
tail_of : (folder : Folder) (leaves : Folder → Type 0) (at : ℕ) (why : WalkReason) → IsNodeRefusal VERSION_1_SIZE folder leaves (node.Damaged at why)
    → (d : Durable) × (saved : List Entry) × StandsFor VERSION_1_SIZE folder d × Stores saved folder
    × (((image : Folder) → leaves image → StandsFor VERSION_1_SIZE image d) → IsWrongTail VERSION_1_SIZE d (node.Damaged at why))
tail_of folder leaves at why (inl (inl (f, same, before, wrong))) = absurd (no_store f at why same)
tail_of folder leaves at why (inl (inr (place, same, control, file))) = absurd cc
tail_of folder leaves at why (inr (saved, stored, inl (f, same, wrong))) = absurd (no_store f at why same)
tail_of folder leaves at why (inr (saved, stored, inr (d, stands, wrong))) = (d, saved, stands, stored, wrong)

module _ {A : Type 0} (e : NodeFault) (end : Tended) (old mid new : DiskState) (w : SinkState)
    (refused : IfTold old.files (λ folder. IsNodeRefusal VERSION_1_SIZE folder old.may_leave e)) (answers : IsOfNodeMount e)
    (caused : IsOpened {A = A} (Err e) old mid) (lost : e ≡ node.DiskFault → Rose old.faults mid.faults ⊎ IfTold old.files Stands)
    (left : OnlyReads old mid) (only : OpensOnly {A = A} (Err e) old mid) where
  refused_in : (folder : Folder) → old.files ≡ Some folder → IsNodeRefusal VERSION_1_SIZE folder old.may_leave e
  refused_in folder told = told_so old.files folder (λ f. IsNodeRefusal VERSION_1_SIZE f old.may_leave e) told refused

  -- a failure was counted, or came after what is right before the log
  rose_or : (folder : Folder) → old.files ≡ Some folder → e ≡ node.DiskFault → Rose old.faults mid.faults ⊎ Stands folder
  rose_or folder told same = ⊎_elim inl (λ stands. inr (told_so old.files folder Stands told stands)) (lost same)

  failed_in : (folder : Folder) → old.files ≡ Some folder → e ≡ node.DiskFault → AreSettled old folder → Rose old.faults mid.faults
  failed_in folder told same settled =
      ⊎_elim (λ rose. rose)
      (λ (s : Stands folder). (only folder s.0 s.1 told s.2 (images_of old folder s.0 s.1 s.2 s.3 settled)).failed (ap (λ (x : NodeFault). Err x) same))
      (rose_or folder told same)

  -- ---- it names its file itself

  plain_ends : (folder : Folder) → old.files ≡ Some folder → IsPlain e → IsToldOfNode e end → IsNodeRefusal VERSION_1_SIZE folder old.may_leave e
      → EndsAt end old mid w w folder
  plain_ends folder told plain is (inl first) =
      early_ends (IsNode old folder) node_line ⊥ (IsDamagedNode old folder) (AreSettled old folder → Rose old.faults mid.faults) folder e end w is
      first (failed_in folder told) (λ name place why bad. inl bad)
  plain_ends folder told plain is (inr (saved, stored, inl (f, same, wrong))) =
      refused_ends (IsNode old folder) node_line ⊥ (IsDamagedNode old folder) (AreSettled old folder → Rose old.faults mid.faults) folder f end w
      (told_as f end (subst (λ (x : NodeFault). IsToldOfNode x end) same is)) wrong (inr (saved, stored))
      (λ failed. failed_in folder told (same ∙ ap of_store failed)) (λ name place why bad. inl bad)
  plain_ends folder told plain is (inr (saved, stored, inr (d, stands, wrong))) =
      tail_ends old folder d saved stands stored (AreSettled old folder → Rose old.faults mid.faults) e end w is answers plain wrong
      (failed_in folder told)

  plain_slots : IsToldOfNode e end → TellsSlots end old mid w w
  plain_slots is folder place told wrong calm =
      ⊎_elim (λ first. early_slots folder place e end is first wrong
      (λ same. ⊎_elim calm.0 (λ (s : Stands folder). slots_apart folder place (s.1, s.3) wrong) (rose_or folder told same)))
      (λ past. absurd (slots_apart folder place (past.0, past.1) wrong)) (refused_in folder told)

  plain_stated : IsPlain e → IsToldOfNode e end → Stated end old mid w w
  plain_stated plain is =
      stated_of end old mid w w
      (where_told old.files (EndsAt end old mid w w) (λ folder told. plain_ends folder told plain is (refused_in folder told))) left
      (refusal_faults end old mid w (plain_quiet e end is answers)
      (λ ends. caused.failed (ap (λ (x : NodeFault). Err x) (plain_failed e end is answers plain ends)))
      (⊎_elim (λ same. inl (node_failure_told e end is same)) inr caused.others))
      (plain_slots is)

  -- ---- the log is wrong past the whole end

  module _ (at : ℕ) (why : WalkReason) (same : e ≡ node.Damaged at why) (is : IsToldOfLog at why end mid new)
      (reads : IfTold mid.files mid.may_leave) (goes : GoesOn old mid) where
    still : Stood old.faults mid.faults
    still = ⊎_elim (λ failed. absurd (let clash : node.Damaged at why ≡ node.DiskFault = sym same ∙ failed in cc)) (λ stood. stood) caused.others

    tail_in : (folder : Folder) → old.files ≡ Some folder → (d : Durable) × (saved : List Entry) × StandsFor VERSION_1_SIZE folder d
        × Stores saved folder
        × (((image : Folder) → old.may_leave image → StandsFor VERSION_1_SIZE image d) → IsWrongTail VERSION_1_SIZE d (node.Damaged at why))
    tail_in folder told =
        tail_of folder old.may_leave at why
        (subst (λ (x : NodeFault). IsNodeRefusal VERSION_1_SIZE folder old.may_leave x) same (refused_in folder told))

    -- the file is named, or the disk failed once more
    named_in : (folder : Folder) (told : old.files ≡ Some folder) → AreSettled old folder
        → IsDamagedOr (segment_file VERSION_1_SIZE (tail_in folder told).0.path (at / VERSION_1_SIZE)) (at % VERSION_1_SIZE) (damage.Bad why) end
        ⊎ ((end ≡ tended.DiskFault) × Rose mid.faults new.faults)
    named_in folder told settled =
        let t = tail_in folder told in
        let now = (only folder t.0 t.1 told t.2 (images_of old folder t.0 t.1 t.2 t.3 settled)).now in
        let after = some_folder mid.files (goes.tells ∙ ap is_some told) in
        is.named after.0 t.0 after.1 (now after.0 (told_so mid.files after.0 mid.may_leave after.1 reads)).0

    log_failed : (folder : Folder) → old.files ≡ Some folder → end ≡ tended.DiskFault → AreSettled old folder → Rose old.faults new.faults
    log_failed folder told failed settled =
        ⊎_elim (λ named. absurd (damaged_other _ _ (damage.Bad why) end named failed)) (λ more. subst (λ (n : ℕ). Rose n new.faults) still more.1)
        (named_in folder told settled)

    log_stated : Stated end old new w w
    log_stated =
        stated_of end old new w w
        (where_told old.files (EndsAt end old new w w) (λ folder told.
        let t = tail_in folder told in
        log_ends old folder t.0 t.1 t.2 t.3 (AreSettled old folder → Rose old.faults new.faults) at why end w t.4 is.kind
        (λ settled. ⊎_elim inl (λ more. inr more.0) (named_in folder told settled)) (log_failed folder told)))
        (reads_then old mid new left is.only)
        (refusal_faults end old new w (failure_quiet end is.kind)
        (λ ends. ⊎_elim (λ rose. inl (subst (λ (n : ℕ). Rose n new.faults) still rose)) (λ lack. inr (omega (arith, lack, goes.lacks))) (is.failed ends))
        (⊎_elim inl (λ stood. inr (stood ∙ still)) is.others))
        (λ folder place told wrong calm. let t = tail_in folder told in absurd (slots_apart folder place (t.1, t.3) wrong))

  -- however it is told; `Same` says that the disk is as the mount left it
  pub refused_stated : (Same : Type 0) → (Same → (P : DiskState → Type 0) → P mid → P new) → IsToldOfMount e end Same mid new
      → IfTold mid.files mid.may_leave → GoesOn old mid → Stated end old new w w
  refused_stated Same moved told reads goes =
      ⊎_elim (λ plain. moved plain.2 (λ d. Stated end old d w w) (plain_stated plain.0 plain.1))
      (λ log. log_stated log.0 log.1 log.2 log.3 reads goes) (split e end Same mid new told)
