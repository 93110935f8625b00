-- What `put_drop` needs and ensures.
use Rattle.std.proofs.Common.{codes}
use Rattle.repl_token.specs.Token.{quoted}
use Rattle.repl_cmd.specs.Printing.{word_if}
use Rattle.repl_cmd.proofs.Appending.{and_more, and_last}
use Rattle.repl_cmd.proofs.print.put_drop.Goals as goal

pub returns-clause-exact : goal.returns-clause-exact
returns-clause-exact c =
    let name = and_more c.args.out.now.items (codes "DROP_REPLICATION_SLOT ") _
    (quoted 34 c.args.name.now) _ c.in_ok-extend_from_slice.ensures.items c.in_ok-put_slot_name.ensures.exact in
    and_last c.put_word_if.result c.args.out.now.items _ _ (word_if c.args.wait (codes " WAIT")) _ name c.put_word_if.ensures
