-- The path up to one of its timelines is one history.
use Rattle.repl_lsn.proofs.UpTo.{one_up_to}
use Rattle.repl_lsn.proofs.path_laws.one_up_to.Goals as goal

pub returns : goal.returns
returns c = one_up_to
