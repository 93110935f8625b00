-- What `put_create` needs and ensures.
use Rattle.std.proofs.Common.{codes}
use Rattle.repl_token.specs.Token.{quoted}
use Rattle.repl_cmd.specs.Printing.{word_if}
use Rattle.repl_cmd.proofs.Appending.{and_more, and_last}
use Rattle.repl_cmd.proofs.print.put_create.Goals as goal

pub returns-clause-exact : goal.returns-clause-exact
returns-clause-exact c =
    let old = c.args.out.now.items in
    let name = and_more old (codes "CREATE_REPLICATION_SLOT ") _
    (quoted 34 c.args.name.now) _ c.in_ok-extend_from_slice.ensures.items c.in_ok-put_slot_name.ensures.exact in
    let temporary = and_more old _ _ (word_if c.args.temporary (codes " TEMPORARY")) _ name c.in_ok-put_word_if.ensures in
    let physical = and_more old _ _ (codes " PHYSICAL") _ temporary c.in_ok-extend_from_slice-2.ensures.items in
    and_last c.put_word_if-2.result old _ _ (word_if c.args.reserve (codes " RESERVE_WAL")) _ physical c.put_word_if-2.ensures
