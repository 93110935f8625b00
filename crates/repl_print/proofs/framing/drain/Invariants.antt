-- What the loop of `drain` keeps: the lines of the messages that the reader gave so far stand in the buffer.
use Rattle.std.proofs.Common.{◌≡◌, ◌<◌, ◌^◌, length}
use Rattle.repl_print.specs.Printing.{GivesLines}
use Rattle.repl_print.proofs.framing.drain.Given as goal

abbrev pub invariant-loop-message : goal.invariant-loop-message
invariant-loop-message l = record {
  printed : GivesLines l.initial.reader l.reader (λ made. l.lines.items ≡ made);
  place_is : l.place ≡ l.reader.place;
  fits : l.initial.reader.place < 2 ^ 64;
}

abbrev pub decreases-loop-message : goal.decreases-loop-message
decreases-loop-message l = length l.reader.rest
