-- So many bytes are read into the front of the room.
use Rattle.std.proofs.Common.{length, ◌-◌, ◌≤◌}
use Rattle.repl_disk.proofs.system.read_full.Given as goal

-- what is read is in the room
abbrev pub invariant-loop-count : goal.invariant-loop-count
invariant-loop-count l = l.count ≤ length l.room

-- the room that is left
abbrev pub decreases-loop-count : goal.decreases-loop-count
decreases-loop-count l = length l.room - l.count
