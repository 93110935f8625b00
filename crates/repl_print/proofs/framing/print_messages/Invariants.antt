-- What the loop keeps: the lines of what was read are written, and nothing was faulty.
use Rattle.repl_effects.specs.Counts.{Stood}
use Rattle.repl_print.proofs.FrameProgress.{Progress}
use Rattle.repl_print.proofs.framing.print_messages.Given as goal

abbrev pub invariant-loop : goal.invariant-loop
invariant-loop g l = record {
  progress : Progress l.fn.side l.reader l.counter (g.S.Source.source l.initial.input) (g.S.Source.source l.input)
      (g.K.Sink.sink l.initial.out) (g.K.Sink.sink l.out);
  read_faults : Stood (g.S.Source.source l.initial.input).faults (g.S.Source.source l.input).faults;
  write_faults : Stood (g.K.Sink.sink l.initial.out).faults (g.K.Sink.sink l.out).faults;
}
