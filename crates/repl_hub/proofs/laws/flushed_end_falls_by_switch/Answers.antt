-- The law `flushed_end_falls_by_switch`.
use Rattle.repl_hub.proofs.Falling.{falls_by_switch}
use Rattle.repl_hub.proofs.laws.flushed_end_falls_by_switch.Goals as goal

pub returns : goal.returns
returns c = falls_by_switch
