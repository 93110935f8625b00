-- A position has one record that ends there.
use Rattle.repl_record.proofs.LogChains.{same_last}
use Rattle.repl_record.proofs.log_laws.one_last.Goals as goal

pub returns : goal.returns
returns c = same_last
