-- The greatest end from the beginning is that from an end on, and back.
use Rattle.repl_walk.proofs.Ends.{whole_joined, whole_split}
use Rattle.repl_walk.proofs.end_laws.whole_end_past_an_end.Goals as goal

pub returns : goal.returns
returns c ident timeline from prev log end last whole start size_is eight first = (
  whole_split ident timeline from prev log end last whole start size_is eight first,
  whole_joined ident timeline from prev log end last whole start size_is eight first,
)
