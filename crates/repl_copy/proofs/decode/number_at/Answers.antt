-- The eight bytes at a place are those of the number that is read there.
use Rattle.std.proofs.Common.{arith}
use Rattle.repl_copy.proofs.Numbers.{long_is}
use Rattle.repl_copy.proofs.decode.number_at.Goals as goal

pub returns : goal.returns
returns c = long_is c.read_u64.result c.args.payload.now c.args.place (λ i. omega (arith, c.type_inv.payload i)) c.requires
    c.read_u64.ensures
