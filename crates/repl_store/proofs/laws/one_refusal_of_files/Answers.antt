-- Cause by cause.
use Rattle.repl_store.proofs.Refusals.{refused_once}
use Rattle.repl_store.proofs.laws.one_refusal_of_files.Goals as goal

pub returns : goal.returns
returns c size folder a b is_a is_b = refused_once size folder a b is_a is_b
