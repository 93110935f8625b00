-- After the pairs so far, what is left of the options.
use Rattle.std.proofs.Common.{◌-◌, length, map, take, ◌≤◌}
use Rattle.repl_args.specs.Words.{texts}
use Rattle.repl_args.specs.Forms.{plain_option}
use Rattle.repl_args.specs.Options.{AreOptions, AreOptionsPast}
use Rattle.repl_args.specs.Rests.{GoesOn}
use Rattle.repl_args.proofs.options.read_options.Given as goal

abbrev pub invariant-loop-place : goal.invariant-loop-place
invariant-loop-place g l = record {
  within : l.place ≤ length l.words;
  goes_on : GoesOn (AreOptions g.K.Kind.is (map plain_option l.options)) (texts l.words)
      (AreOptionsPast g.K.Kind.is (map plain_option l.options) (take l.place (texts l.words))) l.place;
}

abbrev pub decreases-loop-place : goal.decreases-loop-place
decreases-loop-place g l = length l.words - l.place
