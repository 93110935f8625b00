-- The law `released_was_flushed`.
use Rattle.repl_hub.proofs.Lasting.{was_flushed}
use Rattle.repl_hub.proofs.laws.released_was_flushed.Goals as goal

pub returns : goal.returns
returns c = was_flushed
