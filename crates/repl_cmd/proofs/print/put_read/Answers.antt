-- What `put_read` needs and ensures.
use Rattle.std.proofs.Common.{codes}
use Rattle.repl_token.specs.Token.{quoted}
use Rattle.repl_cmd.proofs.Appending.{and_last}
use Rattle.repl_cmd.proofs.print.put_read.Goals as goal

pub returns-clause-exact : goal.returns-clause-exact
returns-clause-exact c =
    and_last c.put_slot_name.result c.args.out.now.items (codes "READ_REPLICATION_SLOT ") _
    (quoted 34 c.args.name.now) _ c.in_ok-extend_from_slice.ensures.items c.put_slot_name.ensures.exact
