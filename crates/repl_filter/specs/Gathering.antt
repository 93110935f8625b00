-- How the gathering of an input ends.
use Rattle.std.specs.Prelude.{Bool, true, false, Result, Ok, Err}
use Rattle.repl_filter.specs.declared.gather.Stop.{Stop}
use Rattle.repl_filter.specs.declared.gather.Stop.TheVariants as stop

-- it ends by a fault of the source
abbrev pub has_failed : {A : Type 0} → Result A Stop → Bool
has_failed (Ok bytes) = false
has_failed (Err stop.ReadFault) = true
has_failed (Err stop.TurnsSpent) = false
has_failed (Err stop.Memory) = false
