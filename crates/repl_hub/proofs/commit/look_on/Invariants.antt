-- So far the looks were not answered yet.
use Rattle.repl_hub.specs.Pass.{Stays}
use Rattle.repl_hub.proofs.Calling.{LooksOn}
use Rattle.repl_hub.proofs.commit.look_on.Given as goal

abbrev pub invariant-loop : goal.invariant-loop
invariant-loop g l = g.H.Hub.of l.hub l.pass
    × Stays g.H.Hub.opened l.initial.pass l.pass
    × LooksOn g.H.Hub.opened g.H.Hub.known l.initial.pass l.ticket l.pass
