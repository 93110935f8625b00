-- A prefix from the beginning is one from an end on, and back.
use Rattle.repl_walk.proofs.Ends.{prefix_joined, prefix_split}
use Rattle.repl_walk.proofs.end_laws.prefix_past_an_end.Goals as goal

pub returns : goal.returns
returns c ident timeline from prev log end last size_is eight first = (
  prefix_split ident timeline from prev log end last size_is eight first,
  prefix_joined ident timeline from prev log end last first,
)
