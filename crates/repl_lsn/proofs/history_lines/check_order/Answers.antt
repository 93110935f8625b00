-- What is wrong with a line beside the one before.
use Rattle.std.proofs.Common.{◌<◌, ◌≤◌, arith, rules}
use Rattle.repl_lsn.specs.History.{last_switch}
use Rattle.repl_lsn.proofs.Order.{in_order_push}
use Rattle.repl_lsn.proofs.history_lines.check_order.Goals as goal

pub returns-clause-in_order : goal.returns-clause-in_order
returns-clause-in_order c =
    let below : c.args.part.now.tli < c.args.own = search rules in
    let falls : last_switch c.args.before.now ≤ c.args.part.now.switch = search rules in
    in_order_push c.args.own c.args.before.now c.args.part.now c.requires (omega arith) below falls
