-- A path goes on from the history of each of its timelines.
use Rattle.repl_lsn.proofs.Holders.{up_to_path}
use Rattle.repl_lsn.proofs.path_laws.path_goes_on.Goals as goal

pub returns : goal.returns
returns c = up_to_path
