-- Where a file goes wrong twice, it is the same place.
use Rattle.repl_slots.proofs.Ends.{place_one}
use Rattle.repl_slots.proofs.laws.one_place.Goals as goal

pub returns : goal.returns
returns c = λ file a b first second. place_one file a b first second
