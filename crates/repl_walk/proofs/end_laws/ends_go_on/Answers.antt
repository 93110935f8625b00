-- An image goes on after records, and records are a prefix of records.
use Rattle.repl_walk.proofs.Ends.{image_goes_on, records_begin_none}
use Rattle.repl_walk.proofs.end_laws.ends_go_on.Goals as goal

pub returns-clause-image : goal.returns-clause-image
returns-clause-image c = image_goes_on

pub returns-clause-prefix : goal.returns-clause-prefix
returns-clause-prefix c = records_begin_none
