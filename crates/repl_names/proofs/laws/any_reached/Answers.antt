-- The law `any_reached`.
use Rattle.repl_names.proofs.Lists.{reached_by_any}
use Rattle.repl_names.proofs.laws.any_reached.Goals as goal

pub returns : goal.returns
returns c = reached_by_any
