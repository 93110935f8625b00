-- What was printed is what `names` does.
use Rattle.repl_print.proofs.NamesEnds.{named}
use Rattle.repl_print.proofs.naming.names.Goals as goal

pub returns : goal.returns
returns g c =
    let made = c.print_list.ensures in
    named c.args.text.now c.print_list.result _ _ made.ends made.write_fault
