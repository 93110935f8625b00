-- What was filled is the log's, and nothing else changed.
use Rattle.std.proofs.Common.{◌≡◌, ◌≤◌, ◌-◌, length}
use Rattle.repl_effects.specs.Counts.{Stood}
use Rattle.repl_store.specs.Backing.{Backs, OnlyReads, State}
use Rattle.repl_store.proofs.Reading.{Filled}
use Rattle.repl_store.proofs.read.read_range.Given as goal

abbrev pub invariant-loop-filled : goal.invariant-loop-filled
invariant-loop-filled g l =
    (length l.room ≡ length l.initial.room) × (l.filled ≤ length l.room)
    × Stood (g.D.Disk.state l.initial.disk).faults (g.D.Disk.state l.disk).faults
    × Stood (g.D.Disk.state l.initial.disk).wants (g.D.Disk.state l.disk).wants
    × g.D.Disk.keeps l.initial.disk l.disk
    × ((s : State) → Backs (g.D.Disk.state l.initial.disk) l.fn.head s
    → Filled (g.D.Disk.state l.initial.disk) (g.D.Disk.state l.disk) l.fn.head s l.fn.at l.filled l.room)
    × OnlyReads (g.D.Disk.state l.initial.disk) (g.D.Disk.state l.disk)

abbrev pub decreases-loop-filled : goal.decreases-loop-filled
decreases-loop-filled g l = length l.initial.room - l.filled
