-- The floor of the slots before the index.
use Rattle.std.proofs.Common.{take}
use Rattle.repl_slots.specs.Slot.{IsFloor}
use Rattle.repl_slots.proofs.find.floor_of.Given as goal

abbrev pub invariant-loop-slot : goal.invariant-loop-slot
invariant-loop-slot l = IsFloor (take l.slot-index l.slots) l.floor
