-- What was printed is what `frames` does.
use Rattle.repl_print.proofs.FrameEnds.{framed}
use Rattle.repl_print.proofs.framing.frames.Goals as goal

pub returns : goal.returns
returns g c =
    let made = c.print_messages.ensures in
    framed c.args.side c.print_messages.result _ _ _ _ made.ends made.read_fault made.write_fault
