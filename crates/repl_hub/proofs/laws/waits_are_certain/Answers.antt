-- The law `waits_are_certain`.
use Rattle.repl_hub.proofs.Lasting.{are_certain}
use Rattle.repl_hub.proofs.laws.waits_are_certain.Goals as goal

pub returns : goal.returns
returns c = are_certain
