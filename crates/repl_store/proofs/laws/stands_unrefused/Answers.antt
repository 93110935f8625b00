-- Cause by cause.
use Rattle.repl_store.proofs.Refusals.{unrefused}
use Rattle.repl_store.proofs.laws.stands_unrefused.Goals as goal

pub returns : goal.returns
returns c size folder d fault some stands refusal = unrefused size folder d some stands fault refusal
