-- A file spells one list, and a missing one none.
use Rattle.repl_slots.proofs.Ends.{stored_one, stored_none}
use Rattle.repl_slots.proofs.laws.saved_is_mounted.Goals as goal

pub returns-clause-slots : goal.returns-clause-slots
returns-clause-slots c = λ entries folder list stores mounted. stored_one entries list folder stores mounted

pub returns-clause-taken : goal.returns-clause-taken
returns-clause-taken c = λ entries folder place stores mounted. stored_none entries folder place stores mounted
