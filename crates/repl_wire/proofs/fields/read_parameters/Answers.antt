-- No name that was read is empty.
use Rattle.std.proofs.Common.{length}
use Rattle.repl_wire.proofs.PairLaws.{pairs_named}
use Rattle.repl_wire.proofs.fields.read_parameters.Goals as goal

pub unreachable-requires : goal.unreachable-requires
unreachable-requires c =
    let named = pairs_named (length c.args.body.now) c.args.body.now c.in_ok-pairs.pairs.items c.in_ok-pairs.rest.now c.in_ok-pairs.ensures
    in
    absurd (let e = c.in-None.ensures.taken.1 named in cc)
