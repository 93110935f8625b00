-- No name stands twice.
use Rattle.std.proofs.Common.{[]}
use Rattle.repl_args.proofs.OptionWords.{one_value}
use Rattle.repl_args.proofs.LinesRead.{value_of_kind}
use Rattle.repl_args.proofs.laws.options_have_one_value.Goals as goal

pub returns-clause-one : goal.returns-clause-one
returns-clause-one g c options words name value other a h k = one_value g.K.Kind.is options [] words name value other tt a h k

pub returns-clause-kind : goal.returns-clause-kind
returns-clause-kind g c = value_of_kind g.K.Kind.is
