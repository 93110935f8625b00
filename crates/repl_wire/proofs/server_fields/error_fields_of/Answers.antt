-- No code that was read is 0.
use Rattle.std.proofs.Common.{length}
use Rattle.repl_wire.proofs.ServerFields.{are_coded}
use Rattle.repl_wire.proofs.server_fields.error_fields_of.Goals as goal

pub unreachable-requires : goal.unreachable-requires
unreachable-requires c =
    let coded = are_coded (length c.args.body.now) c.args.body.now c.in_ok-fields.fields.items c.in_ok-fields.rest.now
    c.in_ok-fields.ensures in
    absurd (let e = c.in-None.ensures.taken.1 coded in cc)
