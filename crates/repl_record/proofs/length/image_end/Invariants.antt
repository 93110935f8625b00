-- What is left of the record ends where all of it does, and each of its bytes goes on by 41 positions at most.
use Rattle.std.proofs.Common.{◌≡◌, ◌+◌, ◌*◌, ◌≤◌}
use Rattle.repl_record.specs.Length.{position_past}
use Rattle.repl_record.proofs.length.image_end.Given as goal

abbrev pub invariant-loop-left : goal.invariant-loop-left
invariant-loop-left l = (position_past l.fn.size l.position l.left ≡ position_past l.fn.size l.fn.at (24 + l.fn.body_length))
    × (l.position + 41 * l.left ≤ l.fn.at + 41 * (24 + l.fn.body_length))

abbrev pub decreases-loop-left : goal.decreases-loop-left
decreases-loop-left l = l.left
