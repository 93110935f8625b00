-- The slots before the index are appended.
use Rattle.std.proofs.Common.{◌≡◌, ◌++◌, take}
use Rattle.repl_slots.specs.SlotFile.{AreEach, entries_bytes, entries_of}
use Rattle.repl_slots.proofs.spell.put_slots.Given as goal

abbrev pub invariant-loop-slot : goal.invariant-loop-slot
invariant-loop-slot l = (l.file.items ≡ l.initial.file.items ++ entries_bytes (entries_of (take l.slot-index l.slots)))
    × AreEach (entries_of (take l.slot-index l.slots))
