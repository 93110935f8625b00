-- The check has taken the log up to its position, and the reads left all else as it was.
use Rattle.std.proofs.Common.{◌≡◌, ◌-◌, false, length}
use Rattle.repl_effects.specs.Counts.{Stood}
use Rattle.repl_store.specs.Backing.{Backs, State}
use Rattle.repl_check.specs.Found.{HasRead}
use Rattle.repl_check.specs.Machine.{check_position}
use Rattle.repl_check.proofs.Pieces.{SoFar}
use Rattle.repl_check.proofs.reading.read_up_to.Given as goal

abbrev pub invariant-pieces : goal.invariant-pieces
invariant-pieces g l =
    (l.store.head ≡ l.initial.store.head) × (l.store.broken ≡ false) × (length l.room ≡ length l.initial.room)
    × (l.at ≡ check_position l.check)
    × Stood (g.D.Disk.state l.initial.store.disk).faults (g.D.Disk.state l.store.disk).faults
    × Stood (g.D.Disk.state l.initial.store.disk).wants (g.D.Disk.state l.store.disk).wants
    × g.D.Disk.keeps l.initial.store.disk l.store.disk
    × ((s : State) → Backs (g.D.Disk.state l.initial.store.disk) l.initial.store.head s
    → SoFar (g.D.Disk.state l.initial.store.disk) (g.D.Disk.state l.store.disk) l.initial.store.head s)
    × HasRead (g.D.Disk.state l.initial.store.disk) l.initial.store.head l.check l.end

abbrev pub decreases-pieces : goal.decreases-pieces
decreases-pieces g l = l.end - l.at
