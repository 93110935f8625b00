-- The form of the line is one of the table's.
use Rattle.repl_args.proofs.LinesRead.{form_of_command}
use Rattle.repl_args.proofs.laws.commands_tell_forms.Goals as goal

pub returns : goal.returns
returns g c = form_of_command g.K.Kind.is
