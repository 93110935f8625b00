-- A text says one history.
use Rattle.repl_lsn.proofs.Reading.{one_reading}
use Rattle.repl_lsn.proofs.history_laws.one_history.Goals as goal

pub returns : goal.returns
returns c = one_reading
