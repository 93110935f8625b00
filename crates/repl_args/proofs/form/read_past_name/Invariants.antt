-- After the words so far, the arguments that are left.
use Rattle.std.proofs.Common.{drop, length, ◌≤◌}
use Rattle.repl_args.specs.Words.{texts}
use Rattle.repl_args.specs.Forms.{plain_form, plain_tail}
use Rattle.repl_args.specs.Lines.{IsTail}
use Rattle.repl_args.specs.Rests.{GoesOn, Past, IsPastName}
use Rattle.repl_args.proofs.form.read_past_name.Given as goal

abbrev pub invariant-loop-place : goal.invariant-loop-place
invariant-loop-place g l = record {
  within : l.place ≤ length l.words;
  goes_on : GoesOn (IsPastName g.K.Kind.is (plain_form l.form)) (texts l.words)
      (Past g.K.Kind.is (drop l.place l.form.arguments.now) (IsTail g.K.Kind.is (plain_tail l.form.tail))) l.place;
}
