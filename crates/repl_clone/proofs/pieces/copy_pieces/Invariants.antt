-- The file has the log up to a position, and no other file changed.
use Rattle.std.proofs.Common.{◌≡◌, ◌-◌, ◌<◌, ◌≤◌, IsSome, Ok, ℕ, List}
use Rattle.repl_clone.specs.Causes.{FromSource, IsOfDisk}
use Rattle.repl_clone.specs.Copying.{Begins, ChangesOnly, log_part}
use Rattle.repl_disk.specs.Folder.{IfTold}
use Rattle.repl_store.specs.Backing.{Backs, State}
use Rattle.repl_clone.proofs.pieces.copy_pieces.Given as goal

abbrev pub invariant-loop-at : goal.invariant-loop-at
invariant-loop-at g l = record {
  above : l.fn.start ≤ l.at;
  within : l.at ≤ l.fn.end;
  changes : IfTold (g.D.Disk.state l.initial.disk).files (λ folder. ChangesOnly (λ other. other ≡ l.fn.name) (g.D.Disk.state l.initial.disk)
      (g.D.Disk.state l.disk) folder);
  written : (s : State) → Backs (g.E.Disk.state l.initial.from.disk) l.initial.from.head s → IfTold (g.D.Disk.state l.disk).files
      (λ folder. Begins (log_part l.initial.from.head.control.floor s l.fn.start l.at) (folder l.fn.name));
  there : l.fn.start < l.at → IfTold (g.D.Disk.state l.disk).files (λ folder. IsSome (folder l.fn.name));
  source : FromSource {A = Unit {0}} (Ok tt) (g.E.Disk.state l.initial.from.disk) (g.E.Disk.state l.from.disk) l.initial.from.head l.from.head
      l.initial.from.broken l.from.broken;
  of_disk : IsOfDisk {A = Unit {0}} (Ok tt) (g.D.Disk.state l.initial.disk) (g.D.Disk.state l.disk);
  keeps : g.D.Disk.keeps l.initial.disk l.disk;
  source_keeps : g.E.Disk.keeps l.initial.from.disk l.from.disk;
}

abbrev pub decreases-loop-at : goal.decreases-loop-at
decreases-loop-at g l = l.fn.end - l.at
