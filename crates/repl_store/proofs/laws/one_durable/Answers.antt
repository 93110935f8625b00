-- Part by part.
use Rattle.repl_store.proofs.Mounting.{durable_one}
use Rattle.repl_store.proofs.laws.one_durable.Goals as goal

pub returns : goal.returns
returns c = durable_one
