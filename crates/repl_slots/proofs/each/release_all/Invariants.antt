-- The slots before the index are done, the others are as they were.
use Rattle.std.proofs.Common.{◌≡◌, ◌++◌, map, take, drop}
use Rattle.repl_slots.proofs.each.release_all.Given as goal
use Rattle.repl_slots.specs.Slot.{released}

abbrev pub invariant-loop-slot : goal.invariant-loop-slot
invariant-loop-slot l = l.slot-items ≡ map (released l.session) (take l.slot-index l.initial.slot-items)
    ++ drop l.slot-index l.initial.slot-items
