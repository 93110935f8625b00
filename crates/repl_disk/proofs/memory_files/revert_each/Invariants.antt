-- The files before the index are taken back, the others are as they were.
use Rattle.std.proofs.Common.{◌≡◌, ◌++◌, map, take, drop}
use Rattle.repl_disk.proofs.memory_files.revert_each.Given as goal
use Rattle.repl_disk.specs.Stored.{reverted}

abbrev pub invariant-loop-file : goal.invariant-loop-file
invariant-loop-file l = l.file-items ≡ map reverted (take l.file-index l.initial.file-items) ++ drop l.file-index l.initial.file-items
