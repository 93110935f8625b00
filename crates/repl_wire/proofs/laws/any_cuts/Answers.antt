-- Two runs over one stream give the same messages and stop with the same answer.
use Rattle.repl_wire.proofs.Cuts.{cuts_one}
use Rattle.repl_wire.proofs.laws.any_cuts.Goals as goal

pub returns : goal.returns
returns c = cuts_one
