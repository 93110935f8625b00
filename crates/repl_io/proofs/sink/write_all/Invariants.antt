-- What the loop of `write_all` keeps: a front is written, and no fault and no want of memory was counted.
use Rattle.std.proofs.Common.{length, ◌-◌, ◌≡◌, ◌≤◌, take}
use Rattle.repl_effects.specs.Told.{Gained}
use Rattle.repl_io.proofs.sink.write_all.Given as goal

abbrev pub invariant-loop-start : goal.invariant-loop-start
invariant-loop-start g l = record {
  within : l.start ≤ length l.bytes;
  gained : Gained (g.K.Sink.sink l.initial.out).written (g.K.Sink.sink l.out).written (take l.start l.bytes);
  faults : (g.K.Sink.sink l.out).faults ≡ (g.K.Sink.sink l.initial.out).faults;
  wants : (g.K.Sink.sink l.out).wants ≡ (g.K.Sink.sink l.initial.out).wants;
}

abbrev pub decreases-loop-start : goal.decreases-loop-start
decreases-loop-start g l = length l.bytes - l.start
