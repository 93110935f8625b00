-- A file that spells slots goes wrong nowhere.
use Rattle.repl_slots.proofs.Ends.{place_none}
use Rattle.repl_slots.proofs.laws.no_place.Goals as goal

pub returns : goal.returns
returns c = λ entries file place spells stops. place_none entries file place spells stops
