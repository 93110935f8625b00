-- The files before the index are certain as they read, the others are as they were.
use Rattle.std.proofs.Common.{◌≡◌, ◌++◌, map, take, drop}
use Rattle.repl_disk.proofs.memory_files.settle_all.Given as goal
use Rattle.repl_disk.specs.Stored.{settled}

abbrev pub invariant-loop-file : goal.invariant-loop-file
invariant-loop-file l = l.file-items ≡ map settled (take l.file-index l.initial.file-items) ++ drop l.file-index l.initial.file-items
