-- What each turn of the loop in `parse_command` keeps, and that it ends.
use Rattle.std.proofs.Common.{◌-◌, ◌≤◌, length}
use Rattle.repl_cmd.proofs.Readings.{IsWalked}
use Rattle.repl_cmd.proofs.parse.parse_command.Given as goal

abbrev pub invariant-loop-state : goal.invariant-loop-state
invariant-loop-state l = record { within : l.at ≤ length l.text; walked : IsWalked l.text l.at l.state }

abbrev pub decreases-loop-state : goal.decreases-loop-state
decreases-loop-state l = length l.text - l.at
