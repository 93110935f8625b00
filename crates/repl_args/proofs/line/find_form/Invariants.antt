-- None of the forms so far has the name.
use Rattle.std.proofs.Common.{◌≢◌, map, take, All}
use Rattle.repl_args.specs.Forms.{form_name, plain_form}
use Rattle.repl_args.proofs.line.find_form.Given as goal

abbrev pub invariant-loop-form : goal.invariant-loop-form
invariant-loop-form g l = All (λ form. form_name form ≢ l.name) (map plain_form (take l.form-index l.forms))
