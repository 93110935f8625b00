-- There is one place at most.
use Rattle.repl_args.proofs.LinesRead.{one_usage_of_words, no_usage_of_line}
use Rattle.repl_args.proofs.laws.one_usage.Goals as goal

pub returns-clause-one : goal.returns-clause-one
returns-clause-one g c = one_usage_of_words g.K.Kind.is

pub returns-clause-none : goal.returns-clause-none
returns-clause-none g c = no_usage_of_line g.K.Kind.is
