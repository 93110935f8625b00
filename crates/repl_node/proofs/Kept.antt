-- What slots hold back stays.
use Rattle.std.proofs.Common.{◌≡◌, ℕ, ◌-◌, ◌*◌, ◌/◌, ◌%◌, ◌<◌, ◌≤◌, min, List, [], All, Contains, Option, Some, None, IfSome, Result, arith, inl, inr, sym, ◌∙◌, ap, subst}
use Rattle.std.proofs.Math.Nat.{div-mul-le_self, mul-le-mul_right}
use Rattle.std.proofs.lemmas.List.Elements.{All-contains}
use Rattle.std.proofs.lemmas.Nat.{le-div}
use Rattle.repl_control.specs.Control.{segment_start}
use Rattle.repl_slots.specs.Slot.{IsFloor, held_positions}
use Rattle.repl_slots.specs.SlotFile.{Entry, entries_of}
use Rattle.repl_slots.specs.declared.slot.Slot.{Slot}
use Rattle.repl_store.specs.Durable.{Durable}
use Rattle.repl_wal.specs.Keeping.{IsTrimmed, PartlyTrims, held_back, trimmed_floor}
use Rattle.repl_wal.specs.Steps.{Never}
use Rattle.repl_wal.specs.declared.fault.NodeFault.{NodeFault}
use Rattle.repl_wal.specs.State.{IsLog, LogState, floor_of, flushed_end, whole_end}
use Rattle.repl_node.specs.Keeping.{AreAbove, AreListed, IsKept, IsTrimmedNode, Kept, KeptIn, TrimLeavesNode}
use Rattle.repl_node.specs.State.{NodeState}
use Rattle.repl_node.specs.Steps.{SaveLeaves}
use Rattle.repl_node.proofs.Sorting.{Sorted, broke, done, partly, sorted, stayed}

-- ---- entries

-- of a position, if there is one, what follows from two things
at_each : (P Q R : ℕ → Type 0) → ((at : ℕ) → P at → Q at → R at) → (o : Option ℕ) → IfSome o P → IfSome o Q → IfSome o R
at_each P Q R leads None p q = tt
at_each P Q R leads (Some at) p q = leads at p q

-- the same of every saved slot
pub of_each : (P Q R : ℕ → Type 0) → ((at : ℕ) → P at → Q at → R at) → (saved : List Entry)
    → All (λ (entry : Entry). IfSome entry.restart P) saved → All (λ (entry : Entry). IfSome entry.restart Q) saved
    → All (λ (entry : Entry). IfSome entry.restart R) saved
of_each P Q R leads saved p q = λ k d below. at_each P Q R leads _ (p k d below) (q k d below)

-- ---- segments

-- the start of a segment is not above a position if it is not above that of a higher one
pub start_below : (size a b : ℕ) → 0 < size → a ≤ b → segment_start size a ≤ segment_start size b
start_below size a b some below =
    mul-le-mul_right size (le-div (a / size) b size some (omega (arith, below, div-mul-le_self a size)))

-- a segment's start that is not above a position is not above that of its segment
pub start_of : (size floor at : ℕ) → 0 < size → floor % size ≡ 0 → floor ≤ at → floor ≤ segment_start size at
start_of size floor at some whole below =
    let rows : floor / size * size ≤ segment_start size at = start_below size floor at some below in
    omega (arith, rows, whole)

-- ---- the least position

pub least_below : (slots : List Slot) (least : Option ℕ) (at other : ℕ) → IsFloor slots least → Contains (held_positions slots) at
    → held_back least other ≤ at
least_below slots None at other is there =
    let none : Contains [] at = subst (λ (l : List ℕ). Contains l at) is there in
    let no : none.0 < 0 = none.1 in absurd (omega (arith, no))
least_below slots (Some least) at other is there = omega (arith, All-contains (λ (position : ℕ). least ≤ position) (held_positions slots) at is.1 there)

-- ---- a node's floor

-- the floor after a trim holds nothing back that a listed slot holds
pub trimmed_kept : (n : NodeState) (keep : ℕ) (least : Option ℕ) → IsLog n.log → IsKept n → AreListed n → IsFloor n.slots least
    → All (λ (entry : Entry). IfSome entry.restart (λ restart. trimmed_floor n.log least keep ≤ segment_start n.log.size restart)) n.saved
trimmed_kept n keep least is kept listed floor =
    let size = n.log.size in
    let some : 0 < size = omega (arith, is.size.least) in
    let other = min (whole_end n.log) (flushed_end n.log - keep) in
    of_each (λ at. floor_of n.log ≤ segment_start size at) (λ at. Contains (held_positions n.slots) at)
    (λ at. trimmed_floor n.log least keep ≤ segment_start size at) (λ at low there.
    let rows = start_below size (held_back least other) at some (least_below n.slots least at other floor there) in
    omega (arith, rows, low, is.right.floor.1)) n.saved kept listed

pub trimmed_left : (n : NodeState) (keep : ℕ) → IsLog n.log → IsKept n → AreListed n → KeptIn n.log.size (TrimLeavesNode n keep)
trimmed_left n keep is kept listed d saved (left, same) =
    let Right : List Entry → Type 0 = λ entries. Kept n.log.size d entries in
    let Floor : Durable → Type 0 = λ e. Kept n.log.size e n.saved in
    subst Right (sym same) (
    elim left.2 [
      | inl old ↦ subst Floor (sym old) kept
      | inr new ↦
          let floor : d.control.floor ≡ trimmed_floor n.log left.0 keep = ap (λ (e : Durable). e.control.floor) new.3
          ∙ ap (λ (m : LogState). m.kept.durable.control.floor) new.2.1 ∙ new.2.0 in
          subst (λ (k : ℕ). All (λ (entry : Entry). IfSome entry.restart (λ restart. k ≤ segment_start n.log.size restart)) n.saved)
          (sym floor) (trimmed_kept n keep left.0 is kept listed left.1)
    ]
    )

-- what is saved as it stands above the floor is kept
pub above_kept : (n : NodeState) → IsLog n.log → AreAbove n → Kept n.log.size n.log.kept.durable (entries_of n.slots)
above_kept n is above =
    of_each (λ at. floor_of n.log ≤ at) (λ at. floor_of n.log ≤ at) (λ at. floor_of n.log ≤ segment_start n.log.size at) (λ at low again.
    start_of n.log.size (floor_of n.log) at (omega (arith, is.size.least)) is.right.floor.0 low) (entries_of n.slots) above above

-- another log with the same floor keeps what this one keeps
pub floor_kept : (n : NodeState) (d : Durable) (saved : List Entry) → IsKept n → d.control.floor ≡ floor_of n.log → saved ≡ n.saved
    → Kept n.log.size d saved
floor_kept n d saved kept same stays =
    let Right : List Entry → Type 0 = λ entries. Kept n.log.size d entries in
    subst Right (sym stays) (
    subst (λ (k : ℕ). All (λ (entry : Entry). IfSome entry.restart (λ restart. k ≤ segment_start n.log.size restart)) n.saved) (sym same) kept
    )

pub saved_left : (n : NodeState) → IsLog n.log → IsKept n → AreAbove n → KeptIn n.log.size (SaveLeaves n)
saved_left n is kept above d saved (old, slots) =
    elim slots [
      | inl same ↦ floor_kept n d saved kept (ap (λ (e : Durable). e.control.floor) old) same
      | inr new ↦
          subst (λ (entries : List Entry). Kept n.log.size d entries) (sym new)
          (subst (λ (e : Durable). Kept n.log.size e (entries_of n.slots)) (sym old) (above_kept n is above))
    ]

-- so is it after a trim, however that ended
trimmed_by : (n : NodeState) (keep : ℕ) (least : Option ℕ) (m : LogState) → IsLog n.log → IsKept n → AreListed n → IsFloor n.slots least
    → Sorted (IsTrimmed n.log least keep) (PartlyTrims n.log least keep) n.log m → Kept m.size m.kept.durable n.saved
trimmed_by n keep least m is kept listed floor (done at trimmed sound) =
    subst (λ (l : LogState). Kept l.size l.kept.durable n.saved) (sym trimmed.1)
    (subst (λ (k : ℕ). All (λ (entry : Entry). IfSome entry.restart (λ restart. k ≤ segment_start n.log.size restart)) n.saved)
    (sym trimmed.0) (trimmed_kept n keep least is kept listed floor))
trimmed_by n keep least m is kept listed floor (stayed stays) = subst (λ (l : LogState). Kept l.size l.kept.durable n.saved) (sym stays) kept
trimmed_by n keep least m is kept listed floor (broke stays sound) =
    subst (λ (l : LogState). Kept l.size l.kept.durable n.saved) (sym stays) kept
trimmed_by n keep least m is kept listed floor (partly (inl stays) sound) =
    subst (λ (l : LogState). Kept l.size l.kept.durable n.saved) (sym stays) kept
trimmed_by n keep least m is kept listed floor (partly (inr raised) sound) =
    subst (λ (l : LogState). Kept l.size l.kept.durable n.saved) (sym raised) (trimmed_kept n keep least is kept listed floor)

pub trimmed_node : (n m : NodeState) (keep : ℕ) (result : Result ℕ NodeFault) → IsLog n.log → IsKept n → AreListed n
    → IsTrimmedNode n keep result m → IsKept m
trimmed_node n m keep result is kept listed trimmed =
    subst IsKept (sym trimmed.rest) (trimmed_by n keep trimmed.least m.log is kept listed trimmed.holds_back
    (sorted Never (Unit {0}) (IsTrimmed n.log trimmed.least keep) (PartlyTrims n.log trimmed.least keep) n.log result m.log trimmed.trimmed))
