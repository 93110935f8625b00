-- A text spells one position.
use Rattle.repl_lsn.proofs.Splits.{one_position}
use Rattle.repl_lsn.proofs.laws.one_value.Goals as goal

pub returns : goal.returns
returns c = one_position
