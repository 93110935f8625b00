-- Two files never have one name.
use Rattle.repl_lsn.proofs.HistoryNames.{one_file}
use Rattle.repl_lsn.proofs.segment_laws.one_file.Goals as goal

pub returns : goal.returns
returns c = one_file
