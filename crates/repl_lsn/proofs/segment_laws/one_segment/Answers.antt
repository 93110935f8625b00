-- A name is that of one segment.
use Rattle.repl_lsn.proofs.Names.{one_segment}
use Rattle.repl_lsn.proofs.segment_laws.one_segment.Goals as goal

pub returns : goal.returns
returns c = one_segment
