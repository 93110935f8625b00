-- The search by halves: names before the place are less, and those after are not.
use Rattle.std.proofs.Common.{◌≡◌, drop}
use Rattle.repl_disk.proofs.memory_files.place_of.Given as goal
use Rattle.repl_disk.proofs.Places.{places_later}
use Rattle.repl_disk.specs.Files.{place_of}

abbrev pub invariant-loop-place : goal.invariant-loop-place
invariant-loop-place l = place_of l.files l.name ≡ places_later l.place (place_of (drop l.place l.files) l.name)
