-- A position is on one timeline.
use Rattle.repl_lsn.proofs.Timelines.{one_on, before_end}
use Rattle.repl_lsn.proofs.path_laws.one_timeline.Goals as goal

pub returns-clause-one : goal.returns-clause-one
returns-clause-one c = one_on

pub returns-clause-end : goal.returns-clause-end
returns-clause-end c = before_end
