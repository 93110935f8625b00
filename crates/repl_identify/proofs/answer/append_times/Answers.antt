-- One time more.
use Rattle.repl_identify.proofs.Lengths.{repeated_more}
use Rattle.repl_identify.proofs.answer.append_times.Goals as goal

pub loop-preserved : goal.loop-preserved
loop-preserved c =
    repeated_more c.loop.counter c.args.out.now.items c.loop.out.items c.args.piece.now c.extend_from_slice.new.self.items c.loop.invariant
    c.in_ok-extend_from_slice.ensures.items
