-- What was taken so far is the beginning of the rest, and fewer bytes are left.
use Rattle.std.proofs.Common.{◌-◌, length}
use Rattle.repl_walk.proofs.RestWalks.{Passing}
use Rattle.repl_walk.proofs.rest.Rest.step.Given as goal

abbrev pub invariant-pages : goal.invariant-pages
invariant-pages l = Passing l.initial.self l.self l.tli l.bytes l.used

abbrev pub decreases-pages : goal.decreases-pages
decreases-pages l = length l.bytes - l.used
