-- The argument at a place.
use Rattle.repl_args.proofs.LinesRead.{argument_that_was_read, place_of_argument}
use Rattle.repl_args.proofs.laws.arguments_are_of_their_kinds.Goals as goal

pub returns-clause-place : goal.returns-clause-place
returns-clause-place g c = place_of_argument g.K.Kind.is

pub returns-clause-kind : goal.returns-clause-kind
returns-clause-kind g c = argument_that_was_read g.K.Kind.is
