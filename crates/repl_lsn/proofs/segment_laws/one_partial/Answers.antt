-- A name is that of one segment that is not whole.
use Rattle.std.proofs.Common.{take}
use Rattle.repl_lsn.proofs.Names.{one_segment}
use Rattle.repl_lsn.proofs.FileNames.{front_names}
use Rattle.repl_lsn.proofs.segment_laws.one_partial.Goals as goal

pub returns : goal.returns
returns c = λ size tli seg other number text h a b.
    one_segment size tli seg other number (take 24 text) h (front_names size text tli seg h a) (front_names size text other number h b)
