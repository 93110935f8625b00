-- Four entries of four tables are what four bytes leave.
use Rattle.std.proofs.Common.{arith}
use Rattle.repl_record.proofs.ChecksumTurns.{four_entries}
use Rattle.repl_record.proofs.checksum.left_by_four.Goals as goal

pub returns : goal.returns
returns c =
    four_entries c.args.zeros c.args.place c.args.bytes.now c.entry.result c.entry-2.result c.entry-3.result c.entry-4.result (λ i.
    omega (arith, c.type_inv.bytes i))
    c.entry.ensures c.entry-2.ensures c.entry-3.ensures c.entry-4.ensures
