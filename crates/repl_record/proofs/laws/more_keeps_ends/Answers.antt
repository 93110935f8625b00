-- Where a record ends, it does in a longer log too.
use Rattle.repl_record.proofs.LogEnds.{kept_by_more}
use Rattle.repl_record.proofs.laws.more_keeps_ends.Goals as goal

pub returns : goal.returns
returns c = kept_by_more
