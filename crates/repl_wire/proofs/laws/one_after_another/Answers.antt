-- The laws of what a reader has given.
use Rattle.repl_wire.proofs.Given.{given_nothing, given_message, given_piece, given_then}
use Rattle.repl_wire.proofs.laws.one_after_another.Goals as goal

pub returns-clause-nothing : goal.returns-clause-nothing
returns-clause-nothing c = given_nothing

pub returns-clause-message : goal.returns-clause-message
returns-clause-message c = given_message

pub returns-clause-piece : goal.returns-clause-piece
returns-clause-piece c = given_piece

pub returns-clause-more : goal.returns-clause-more
returns-clause-more c = given_then
