-- How calls on a node end.
use Rattle.std.specs.Prelude.{◌≡◌, ◌⊎◌, true, false, List, Result, Ok, Err}
use Rattle.repl_slots.specs.SlotFile.{entries_of}
use Rattle.repl_slots.specs.declared.fault.SlotFault.{SlotFault}
use Rattle.repl_slots.specs.declared.fault.SlotFault.TheVariants as fault
use Rattle.repl_slots.specs.declared.slot.Slot.{Slot}
use Rattle.repl_wal.specs.State.{LogState}
use Rattle.repl_node.specs.State.{Left, NodeState, broken_node, saved_node, with_log, with_slots}

-- a call that concerns the log alone
abbrev pub OfLog : NodeState → (LogState → Type 0) → NodeState → Type 0
OfLog n Next m = (log : LogState) × Next log × (m ≡ with_log n log)

-- A call that concerns the slots in memory alone: they are these where it is done, and as they were where it is refused.
abbrev pub OfSlots : {A : Type 0} → NodeState → List Slot → Result A SlotFault → NodeState → Type 0
OfSlots n slots (Ok x) m = m ≡ with_slots n slots
OfSlots n slots (Err e) m = m ≡ n

-- ---- saving the slots

-- Each slot that lasts has its restart position saved, and a crash leaves these slots. After a failure of the disk the node is broken.
abbrev pub Saves : {A : Type 0} → NodeState → Result A SlotFault → NodeState → Type 0
Saves n (Ok x) m = (n.log.broken ≡ false) × (m ≡ saved_node n)
Saves n (Err fault.Broken) m = (n.log.broken ≡ true) × (m ≡ n)
Saves n (Err fault.DiskFault) m = (n.log.broken ≡ false) × (m ≡ broken_node n)
Saves n (Err fault.Memory) m = (n.log.broken ≡ false) × (m ≡ n)
Saves n (Err fault.BadName) m = ⊥
Saves n (Err fault.Duplicate) m = ⊥
Saves n (Err (fault.Full limit)) m = ⊥
Saves n (Err fault.NoSlot) m = ⊥
Saves n (Err (fault.InUse session)) m = ⊥
Saves n (Err (fault.BadSlots place)) m = ⊥

-- a crash leaves the slots from before, or these, and the log as it is
abbrev pub SaveLeaves : NodeState → Left
SaveLeaves n d saved = (d ≡ n.log.kept.durable) × ((saved ≡ n.saved) ⊎ (saved ≡ entries_of n.slots))

-- ---- nothing but memory

abbrev pub SameLeft : NodeState → Left
SameLeft n d saved = (d ≡ n.log.kept.durable) × (saved ≡ n.saved)
