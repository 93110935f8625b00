-- From this place on the name has the values that it has from the first on.
use Rattle.std.proofs.Common.{ℕ, List, ◌-◌, length, drop}
use Rattle.repl_args.specs.Words.{texts}
use Rattle.repl_args.specs.Options.{HasValue}
use Rattle.repl_args.proofs.options.option_value.Given as goal

abbrev pub invariant-loop-place : goal.invariant-loop-place
invariant-loop-place l = record {
  here : (value : List ℕ) → HasValue (drop l.place (texts l.words)) l.name value → HasValue (drop l.from (texts l.words)) l.name value;
  there : (value : List ℕ) → HasValue (drop l.from (texts l.words)) l.name value → HasValue (drop l.place (texts l.words)) l.name value;
}

abbrev pub decreases-loop-place : goal.decreases-loop-place
decreases-loop-place l = length l.words - l.place
