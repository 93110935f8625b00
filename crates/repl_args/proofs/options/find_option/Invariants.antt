-- None of the options so far has the name.
use Rattle.std.proofs.Common.{◌≢◌, map, take, All}
use Rattle.repl_args.specs.Forms.{option_name, plain_option}
use Rattle.repl_args.proofs.options.find_option.Given as goal

abbrev pub invariant-loop-option : goal.invariant-loop-option
invariant-loop-option g l = All (λ option. option_name option ≢ l.name) (map plain_option (take l.option-index l.options))
