-- The last end of a prefix of records is the greatest.
use Rattle.repl_record.proofs.LogChains.{greatest_end}
use Rattle.repl_record.proofs.log_laws.prefix_has_the_greatest_end.Goals as goal

pub returns : goal.returns
returns c = greatest_end
