-- Sixteen bytes, of which four are added to the register, go by sixteen tables.
use Rattle.std.proofs.Common.{◌^◌, ◌<◌, ap, ◌∙◌, arith}
use Rattle.std.proofs.lemmas.Nat.{xor_lt}
use Rattle.std.specs.Int.Bits.{bit_xor}
use Rattle.byteorder.specs.Endian.{little_from}
use Rattle.repl_record.specs.Shifts.{past_bytes}
use Rattle.repl_record.proofs.ChecksumTurns.{number_back, sixteen}
use Rattle.repl_record.proofs.checksum.after_sixteen.Goals as goal

pub returns : goal.returns
returns c =
    let bytes = c.args.bytes.now in
    let word = bit_xor c.args.register c.read_u32.result in
    let fits : word < 2 ^ 32 = xor_lt 32 c.args.register c.read_u32.result (omega arith) (omega arith) in
    let first = c.left_by_four.ensures ∙ ap (λ t. past_bytes 16 (little_from 0 4 t)) c.to_le_bytes-first.ensures
    ∙ ap (past_bytes 16) (number_back word fits ∙ ap (bit_xor c.args.register) c.read_u32.ensures) in
    sixteen c.args.register bytes c.left_by_four.result c.left_by_four-2.result c.left_by_four-3.result c.left_by_four-4.result c.requires
    (λ i. omega (arith, c.type_inv.bytes i)) first
    c.left_by_four-2.ensures c.left_by_four-3.ensures c.left_by_four-4.ensures
