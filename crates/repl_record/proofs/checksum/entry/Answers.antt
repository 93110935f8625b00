-- An entry of the tables is what its byte leaves.
use Rattle.std.proofs.Common.{suc, ◌+◌, ◌≡◌, arith, ap, ◌∙◌}
use Rattle.repl_record.specs.Shifts.{past_bytes}
use Rattle.repl_record.proofs.ChecksumTables.{LEFT_BEHIND-is}
use Rattle.repl_record.proofs.checksum.entry.Goals as goal

pub returns : goal.returns
returns c =
    let next : suc c.args.zeros ≡ c.args.zeros + 1 = omega arith in
    LEFT_BEHIND-is c.args.zeros c.args.byte c.requires (omega arith) ∙ ap (λ t. past_bytes t c.args.byte) next
