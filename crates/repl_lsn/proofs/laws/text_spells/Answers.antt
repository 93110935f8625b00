-- The printed text of a position spells it.
use Rattle.repl_lsn.proofs.Canonical.{position_text_spells}
use Rattle.repl_lsn.proofs.laws.text_spells.Goals as goal

pub returns : goal.returns
returns c = position_text_spells
