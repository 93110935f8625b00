-- The next timeline starts where the one before it ends.
use Rattle.repl_lsn.proofs.Holders.{next_starts}
use Rattle.repl_lsn.proofs.path_laws.next_begins.Goals as goal

pub returns : goal.returns
returns c = next_starts
