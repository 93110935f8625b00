-- The control of a new store is right: its three positions are the size of a segment.
use Rattle.std.proofs.Common.{◌∙◌}
use Rattle.repl_control.proofs.Fresh.{fresh_right}
use Rattle.repl_control.proofs.control.Control.fresh.Goals as goal

pub returns-clause-right : goal.returns-clause-right
returns-clause-right c = fresh_right c.args.role c.args.sysid c.args.magic c.args.size c.from.result c.bytes.ensures.size (c.from.ensures
    ∙ c.bytes.ensures.value)
