-- The names of the files so far, in their order.
use Rattle.std.proofs.Common.{◌≡◌, map, take, string_bytes}
use Rattle.repl_disk.proofs.memory_files.names.Given as goal
use Rattle.repl_disk.specs.Stored.{Stored}

abbrev pub invariant-loop-file : goal.invariant-loop-file
invariant-loop-file l = map string_bytes l.names.items ≡ map (λ (file : Stored). file.name) (take l.file-index l.files)
