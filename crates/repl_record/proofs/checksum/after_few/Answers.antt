-- Each byte goes on, and after the last one there is none.
use Rattle.std.proofs.Common.{sym, ◌∙◌, arith}
use Rattle.repl_record.proofs.ChecksumPieces.{remainder-next, remainder_past}
use Rattle.repl_record.proofs.checksum.after_few.Goals as goal

pub loop-byte-preserved : goal.loop-byte-preserved
loop-byte-preserved c =
    remainder-next c.loop-byte.register c.after_byte-register.result c.loop-byte.byte-index c.args.bytes.now c.loop-byte-test.true
    c.after_byte-register.ensures ∙ c.loop-byte.invariant

pub returns : goal.returns
returns c = sym (remainder_past c.loop-byte.register c.loop-byte.byte-index c.args.bytes.now (omega arith)) ∙ c.loop-byte.invariant
