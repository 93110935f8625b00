-- So far nothing that counts changed.
use Rattle.std.proofs.Common.{◌/◌, map, string_bytes}
use Rattle.repl_store.proofs.Freeing.{Gone}
use Rattle.repl_effects.specs.Counts.{Stood}
use Rattle.repl_store.specs.Apart.{StaysApart}
use Rattle.repl_store.specs.Backing.{Backs, Before, LeavesOne, State}
use Rattle.repl_store.proofs.raise.remove_below.Given as goal

abbrev pub invariant-loop-name : goal.invariant-loop-name
invariant-loop-name g l =
    Stood (g.D.Disk.state l.fn.disk).faults (g.D.Disk.state l.disk).faults
    × Stood (g.D.Disk.state l.fn.disk).wants (g.D.Disk.state l.disk).wants
    × g.D.Disk.keeps l.fn.disk l.disk
    × ((s : State) → Backs (g.D.Disk.state l.fn.disk) l.fn.head s
    → LeavesOne (g.D.Disk.state l.fn.disk) (g.D.Disk.state l.disk) l.fn.head.size (Before s) × Backs (g.D.Disk.state l.disk) l.fn.head s)
    × Gone (g.D.Disk.state l.fn.disk).files (g.D.Disk.state l.disk).files l.fn.head.size (l.fn.head.control.floor / l.fn.head.size)
    (map string_bytes l.name-items) l.name-index
    × StaysApart (g.D.Disk.state l.fn.disk) (g.D.Disk.state l.disk)
