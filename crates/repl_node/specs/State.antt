-- A node: its log, and the slots that hold it back.
use Rattle.std.specs.Prelude.{◌≡◌, List, map}
use Rattle.repl_slots.specs.Slot.{settled}
use Rattle.repl_slots.specs.SlotFile.{Entry, entries_of}
use Rattle.repl_slots.specs.declared.slot.Slot.{Slot}
use Rattle.repl_store.specs.Durable.{Durable}
use Rattle.repl_wal.specs.State.{LogState, breaking}

pub record NodeState : Type 0 where
  pub log : LogState
  -- in the order of creation
  pub slots : List Slot
  -- those that a crash leaves, as their file keeps them
  pub saved : List Entry

-- ---- what calls make of it

-- the same node with another log
abbrev pub with_log : NodeState → LogState → NodeState
with_log n log = record n { log = log }

-- the same node with other slots in memory
abbrev pub with_slots : NodeState → List Slot → NodeState
with_slots n slots = record n { slots = slots }

-- the slots are saved as they are
abbrev pub saved_node : NodeState → NodeState
saved_node n = record n { slots = map settled n.slots; saved = entries_of n.slots }

-- a call of the disk failed
abbrev pub broken_node : NodeState → NodeState
broken_node n = with_log n (breaking n.log)

-- ---- what a crash leaves

-- of a node: what it leaves of the log, and the slots of a file
abbrev pub Left : Type 1
Left = Durable → List Entry → Type 0

-- the log is one of those, and the slots are the saved ones
abbrev pub LeftOf : NodeState → (Durable → Type 0) → Left
LeftOf n column d saved = column d × (saved ≡ n.saved)
