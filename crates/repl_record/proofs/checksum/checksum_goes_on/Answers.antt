-- The checksum of two parts is that of the second, which goes on from the first.
use Rattle.repl_record.proofs.ChecksumPieces.{goes_on}
use Rattle.repl_record.proofs.checksum.checksum_goes_on.Goals as goal

pub returns : goal.returns
returns c before a b fits = goes_on before a b
