-- The names of two forms with one line are one.
use Rattle.repl_args.proofs.Names.{are_apart}
use Rattle.repl_args.proofs.LinesRead.{one_form_of_words}
use Rattle.repl_args.proofs.laws.one_form.Goals as goal

pub returns : goal.returns
returns g c table words form other test one two p q = one_form_of_words g.K.Kind.is table words form other (are_apart table test) one two p q
