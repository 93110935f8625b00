-- One byte goes by the first table.
use Rattle.std.proofs.Common.{arith}
use Rattle.repl_record.proofs.ChecksumTurns.{one_entry}
use Rattle.repl_record.proofs.checksum.after_byte.Goals as goal

pub returns : goal.returns
returns c = one_entry c.args.register c.args.byte c.entry.result (omega arith) c.entry.ensures
