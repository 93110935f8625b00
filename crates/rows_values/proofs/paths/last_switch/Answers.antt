-- The last switch point is that of the last parent.
use Rattle.std.proofs.Common.{sym}
use Rattle.rows_values.proofs.Switches.{last_switch_of}
use Rattle.rows_values.proofs.paths.last_switch.Goals as goal

pub returns-in-Some : goal.returns-in-Some
returns-in-Some c = rw (← c.parents.ensures.value) (rw (← c.as_slice.ensures) (sym (last_switch_of _ _ _ c.in-Some.ensures.cases.0)))
