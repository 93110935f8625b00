-- The law `certificate_is_sound`.
use Rattle.repl_sync.proofs.Lawful.{sound}
use Rattle.repl_sync.proofs.laws.certificate_is_sound.Goals as goal

pub returns : goal.returns
returns c = sound
