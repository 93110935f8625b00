-- The slots before the index are counted.
use Rattle.std.proofs.Common.{◌≡◌, ◌≤◌, length, take}
use Rattle.repl_slots.specs.SlotFile.{entries_of}
use Rattle.repl_slots.proofs.spell.lasting.Given as goal

abbrev pub invariant-loop-slot : goal.invariant-loop-slot
invariant-loop-slot l = (l.count ≡ length (entries_of (take l.slot-index l.slots))) × (l.count ≤ l.slot-index)
