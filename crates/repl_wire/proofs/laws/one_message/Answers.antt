-- One spelling of a phase, and what follows it.
use Rattle.repl_wire.proofs.FieldSpellings.{messages_one}
use Rattle.repl_wire.proofs.laws.one_message.Goals as goal

pub returns : goal.returns
returns c = messages_one
