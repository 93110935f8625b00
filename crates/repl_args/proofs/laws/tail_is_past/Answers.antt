-- The rest of the line.
use Rattle.repl_args.proofs.LinesRead.{rest_that_was_read}
use Rattle.repl_args.proofs.laws.tail_is_past.Goals as goal

pub returns : goal.returns
returns g c = rest_that_was_read g.K.Kind.is
