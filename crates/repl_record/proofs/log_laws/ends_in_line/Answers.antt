-- Of two record ends the later is counted from the earlier.
use Rattle.repl_record.proofs.LogChains.{in_line}
use Rattle.repl_record.proofs.log_laws.ends_in_line.Goals as goal

pub returns : goal.returns
returns c = in_line
