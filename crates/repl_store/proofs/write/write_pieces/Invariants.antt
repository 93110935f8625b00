-- A front of the bytes is appended, and nothing was counted.
use Rattle.std.proofs.Common.{◌≤◌, ◌+◌, ◌-◌, length}
use Rattle.repl_effects.specs.Counts.{Stood}
use Rattle.repl_store.specs.Apart.{StaysApart}
use Rattle.repl_store.specs.Backing.{Backs, State}
use Rattle.repl_store.specs.Head.{IsAt}
use Rattle.repl_store.proofs.Pieces.{Reached}
use Rattle.repl_store.proofs.write.write_pieces.Given as goal

abbrev pub invariant-loop-done : goal.invariant-loop-done
invariant-loop-done g l = record {
  within : l.done ≤ length l.bytes;
  at : IsAt l.initial.head l.head (l.initial.head.written + l.done);
  faults : Stood (g.D.Disk.state l.initial.disk).faults (g.D.Disk.state l.disk).faults;
  wants : Stood (g.D.Disk.state l.initial.disk).wants (g.D.Disk.state l.disk).wants;
  apart : StaysApart (g.D.Disk.state l.initial.disk) (g.D.Disk.state l.disk);
  keeps : g.D.Disk.keeps l.initial.disk l.disk;
  reached : (s : State) → Backs (g.D.Disk.state l.initial.disk) l.initial.head s
      → Reached (g.D.Disk.state l.initial.disk) (g.D.Disk.state l.disk) l.head s l.bytes l.done;
}

abbrev pub decreases-loop-done : goal.decreases-loop-done
decreases-loop-done g l = length l.bytes - l.done
