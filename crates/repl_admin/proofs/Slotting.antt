-- Where the slots are wrong, nothing else is told: what is wrong before them is not, and what would be told after them is passed
-- over.
use Rattle.std.proofs.Common.{◌≡◌, ◌⊎◌, ℕ, List, Some, None, refl, sym, ◌∙◌, ap, subst, inl, inr}
use Rattle.repl_control.proofs.Spelled.{spelled_right}
use Rattle.repl_control.specs.Control.{IsControlFault}
use Rattle.repl_control.specs.declared.control.Control.{Control}
use Rattle.repl_control.specs.declared.control.TheConstants.{VERSION_1_SIZE}
use Rattle.repl_disk.specs.Folder.{Folder, content}
use Rattle.repl_node.specs.Making.{IsBeforeSlots, IsFirstRefusal}
use Rattle.repl_slots.proofs.Ends.{place_none, place_one}
use Rattle.repl_slots.specs.SlotFile.{FileStops}
use Rattle.repl_slots.specs.Stored.{StoredIn, slots_name}
use Rattle.repl_exit.specs.declared.damage.DamageReason.{DamageReason}
use Rattle.repl_exit.specs.declared.damage.DamageReason.TheVariants as damage
use Rattle.repl_store.specs.Refusal.{HasControl, IsOfDisk, IsRefusal}
use Rattle.repl_admin.proofs.Ending.{told_as}
use Rattle.repl_admin.specs.Damages.{IsDamagedOr, IsToldOf, IsToldOfNode}
use Rattle.repl_admin.specs.declared.tended.Tended.{Tended}
use Rattle.repl_admin.specs.declared.tended.Tended.TheVariants as tended
use Rattle.repl_wal.specs.Faults.{of_store}
use Rattle.repl_wal.specs.declared.fault.NodeFault.{NodeFault}
use Rattle.repl_wal.specs.declared.fault.NodeFault.TheVariants as node
use Rattle.repl_store.specs.declared.fault.StoreFault.{StoreFault}
use Rattle.repl_store.specs.declared.fault.StoreFault.TheVariants as fault
use Rattle.repl_admin.specs.Files.{HasSlots, HasWrongSlots}
use Rattle.repl_admin.specs.Tending.{IsDamageOf, IsDamaged}

-- right slots are not wrong
pub slots_apart : (folder : Folder) (place : ℕ) → HasSlots folder → HasWrongSlots folder place → ⊥
slots_apart folder place slots wrong =
    let spells : StoredIn slots.0 (Some wrong.1.0) = subst (StoredIn slots.0) wrong.1.1 slots.1 in
    place_none slots.0 wrong.1.0 place spells wrong.1.2

-- they are wrong at one place
pub one_wrong : (folder : Folder) (a b : ℕ) → HasWrongSlots folder a → HasWrongSlots folder b → a ≡ b
one_wrong folder a b first second =
    let same : first.1.0 ≡ second.1.0 = ap content (sym first.1.1 ∙ second.1.1) in
    place_one second.1.0 a b (subst (λ (f : List ℕ). FileStops f a) same first.1.2) second.1.2

-- beside a right control nothing is wrong before the slots
pub none_before : (folder : Folder) (e : StoreFault) → ((control : Control) × HasControl VERSION_1_SIZE folder control) → IsBeforeSlots e
    → IsRefusal VERSION_1_SIZE folder e → IsOfDisk e
none_before folder fault.Broken has before wrong = absurd before
none_before folder fault.Exists has before wrong = absurd before
none_before folder (fault.Missing name) has before wrong =
    absurd (let same : Some has.1.0 ≡ None = sym has.1.1 ∙ (ap folder (sym before) ∙ wrong.0) in cc)
none_before folder (fault.BadControl place) has before wrong =
    let same : wrong.0 ≡ has.1.0 = ap content (sym wrong.1 ∙ has.1.1) in
    absurd (spelled_right VERSION_1_SIZE has.1.0 has.0 place has.1.2 (subst (λ (b : List ℕ). IsControlFault VERSION_1_SIZE b place) same wrong.2))
none_before folder (fault.BadHistory tli wrong_so) has before wrong = absurd before
none_before folder (fault.ShortFile name have wanted) has before wrong = absurd before
none_before folder fault.DiskFault has before wrong = tt
none_before folder fault.Memory has before wrong = tt

-- a failure is no damage
pub no_damage : (e : StoreFault) (name : List ℕ) (place : ℕ) (why : DamageReason) → IsOfDisk e → IsDamageOf e name place why → ⊥
no_damage fault.Broken name place why of is = is
no_damage fault.Exists name place why of is = is
no_damage (fault.Missing file) name place why of is = of
no_damage (fault.BadControl at) name place why of is = of
no_damage (fault.BadHistory tli wrong) name place why of is = of
no_damage (fault.ShortFile file have wanted) name place why of is = of
no_damage fault.DiskFault name place why of is = is
no_damage fault.Memory name place why of is = is

-- the damage is that of the slots, at this place
abbrev pub IsOfSlotsAt : ℕ → List ℕ → ℕ → DamageReason → Type 0
IsOfSlotsAt at name place why = (name ≡ slots_name) × (place ≡ at) × (why ≡ damage.Slots)

-- wrong slots are the damage of the files
pub slots_damaged : (folder : Folder) (at : ℕ) → HasWrongSlots folder at → (name : List ℕ) (place : ℕ) (why : DamageReason)
    → IsDamaged folder name place why → IsOfSlotsAt at name place why
slots_damaged folder at wrong name place why (inl bad) = (bad.1, one_wrong folder place at bad.0 wrong, bad.2)
slots_damaged folder at wrong name place why (inr (e, inl before, refusal, is)) =
    absurd (no_damage e name place why (none_before folder e wrong.0 before refusal) is)
slots_damaged folder at wrong name place why (inr (e, inr slots, refusal, is)) = absurd (slots_apart folder at slots wrong)

-- ---- wrong slots are told

-- a failure of memory is told so
of_disk_told : (f : StoreFault) (end : Tended) → IsOfDisk f → IsToldOf f end → (f ≡ fault.DiskFault → ⊥) → end ≡ tended.Memory
of_disk_told fault.Broken end of is other = absurd of
of_disk_told fault.Exists end of is other = absurd of
of_disk_told (fault.Missing name) end of is other = absurd of
of_disk_told (fault.BadControl place) end of is other = absurd of
of_disk_told (fault.BadHistory tli wrong) end of is other = absurd of
of_disk_told (fault.ShortFile name have wanted) end of is other = absurd of
of_disk_told fault.DiskFault end of is other = absurd (other refl)
of_disk_told fault.Memory end of is other = is

pub early_slots : (folder : Folder) (place : ℕ) (e : NodeFault) (end : Tended) → IsToldOfNode e end → IsFirstRefusal VERSION_1_SIZE folder e
    → HasWrongSlots folder place → (e ≡ node.DiskFault → ⊥) → (end ≡ tended.Damaged slots_name place damage.Slots) ⊎ (end ≡ tended.Memory)
early_slots folder place e end is (inl (f, same, before, refusal)) wrong other =
    inr (of_disk_told f end (none_before folder f wrong.0 before refusal) (told_as f end (subst (λ (x : NodeFault). IsToldOfNode x end) same is))
    (λ failed. other (same ∙ ap of_store failed)))
early_slots folder place e end is (inr (at, same, control, file)) wrong other =
    let one : at ≡ place = one_wrong folder at place (control, file) wrong in
    subst (λ (p : ℕ). IsDamagedOr slots_name p damage.Slots end) one (subst (λ (x : NodeFault). IsToldOfNode x end) same is)
