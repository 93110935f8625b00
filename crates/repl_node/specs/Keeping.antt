-- How far slots hold the log back (PostgreSQL 17 manual, section "Replication Slots").
use Rattle.std.specs.Prelude.{◌≡◌, ℕ, ◌≤◌, List, All, Contains, Option, IfSome, Result}
use Rattle.repl_control.specs.Control.{segment_start}
use Rattle.repl_slots.specs.Slot.{IsFloor, held_positions}
use Rattle.repl_slots.specs.SlotFile.{Entry, entries_of}
use Rattle.repl_store.specs.Durable.{Durable}
use Rattle.repl_wal.specs.Keeping.{TrimLeaves, Trims}
use Rattle.repl_wal.specs.State.{floor_of}
use Rattle.repl_wal.specs.declared.fault.NodeFault.{NodeFault}
use Rattle.repl_node.specs.State.{Left, NodeState, with_log}

-- The log is kept for each slot that is saved: its floor is at or below the start of the segment from which the slot needs it.
-- That every byte is there from the floor to the flushed end is a part of what a node's files stand for.
abbrev pub Kept : ℕ → Durable → List Entry → Type 0
Kept size d saved = All (λ (entry : Entry). IfSome entry.restart (λ restart. d.control.floor ≤ segment_start size restart)) saved

-- so it is in the node and in all that a crash leaves
abbrev pub IsKept : NodeState → Type 0
IsKept n = Kept n.log.size n.log.kept.durable n.saved

abbrev pub KeptIn : ℕ → Left → Type 0
KeptIn size left = (d : Durable) (saved : List Entry) → left d saved → Kept size d saved

-- each saved position stands in the list as one that holds the log back: no slot was dropped since the last save
abbrev pub AreListed : NodeState → Type 0
AreListed n = All (λ (entry : Entry). IfSome entry.restart (λ restart. Contains (held_positions n.slots) restart)) n.saved

-- no restart position of a slot that lasts lies below the floor
abbrev pub AreAbove : NodeState → Type 0
AreAbove n = All (λ (entry : Entry). IfSome entry.restart (λ restart. floor_of n.log ≤ restart)) (entries_of n.slots)

-- The log is trimmed as far as the least position allows that a slot holds, and none where no slot holds one.
pub record IsTrimmedNode (n : NodeState) (keep : ℕ) (result : Result ℕ NodeFault) (m : NodeState) : Type 0 where
  pub least : Option ℕ
  pub holds_back : IsFloor n.slots least
  pub trimmed : Trims n.log least keep result m.log
  pub rest : m ≡ with_log n m.log

abbrev pub TrimLeavesNode : NodeState → ℕ → Left
TrimLeavesNode n keep d saved = ((least : Option ℕ) × IsFloor n.slots least × TrimLeaves n.log least keep d) × (saved ≡ n.saved)
