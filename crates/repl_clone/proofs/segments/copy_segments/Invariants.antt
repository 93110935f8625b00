-- The files of segments have the log up to a position, which is a segment's start unless it is the end.
use Rattle.std.proofs.Common.{◌≡◌, ◌-◌, ◌%◌, ◌⊎◌, ◌<◌, ◌≤◌, Ok, ℕ, List}
use Rattle.repl_clone.specs.Causes.{FromSource, IsOfDisk}
use Rattle.repl_clone.specs.Copying.{ChangesOnly, HasLog, OfSegment}
use Rattle.repl_disk.specs.Folder.{Folder, IfTold}
use Rattle.repl_store.specs.Backing.{Backs, State}
use Rattle.repl_clone.proofs.segments.copy_segments.Given as goal

abbrev pub invariant-loop-at : goal.invariant-loop-at
invariant-loop-at g l = record {
  above : l.initial.from.head.control.floor ≤ l.at;
  within : l.at ≤ l.initial.from.head.control.flushed;
  whole : (l.at % l.initial.from.head.size ≡ 0) ⊎ (l.at ≡ l.initial.from.head.control.flushed);
  changes : IfTold (g.D.Disk.state l.initial.disk).files (λ folder. ChangesOnly (OfSegment l.initial.from.head.size l.initial.from.head.path)
      (g.D.Disk.state l.initial.disk) (g.D.Disk.state l.disk) folder);
  copied : (s : State) → Backs (g.E.Disk.state l.initial.from.disk) l.initial.from.head s → IfTold (g.D.Disk.state l.initial.disk).files
      (λ folder. (image : Folder) → (g.D.Disk.state l.disk).may_leave image
      → HasLog l.initial.from.head.size l.initial.from.head.path l.initial.from.head.control.floor s l.at image);
  source : FromSource {A = Unit {0}} (Ok tt) (g.E.Disk.state l.initial.from.disk) (g.E.Disk.state l.from.disk) l.initial.from.head l.from.head
      l.initial.from.broken l.from.broken;
  of_disk : IsOfDisk {A = Unit {0}} (Ok tt) (g.D.Disk.state l.initial.disk) (g.D.Disk.state l.disk);
  keeps : g.D.Disk.keeps l.initial.disk l.disk;
  source_keeps : g.E.Disk.keeps l.initial.from.disk l.from.disk;
}

abbrev pub decreases-loop-at : goal.decreases-loop-at
decreases-loop-at g l = l.initial.from.head.control.flushed - l.at
