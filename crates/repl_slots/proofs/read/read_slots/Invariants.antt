-- So many slots are read.
use Rattle.repl_slots.proofs.Reading.{SoFar}
use Rattle.repl_slots.proofs.read.read_slots.Given as goal

abbrev pub invariant-loop : goal.invariant-loop
invariant-loop l = SoFar l.file l.count l.slots.items l.at l.counter
