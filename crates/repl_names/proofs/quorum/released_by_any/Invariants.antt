-- What each turn of the loop in `released_by_any` keeps, and that it ends.
use Rattle.std.proofs.Common.{ℕ, ◌-◌, ◌<◌, ◌≤◌, count_by}
use Rattle.repl_names.specs.Quorum.{candidates, reaches}
use Rattle.repl_names.proofs.quorum.released_by_any.Given as goal

abbrev pub invariant-loop-low : goal.invariant-loop-low
invariant-loop-low l = record {
  ordered : l.low ≤ l.high;
  met : l.number ≤ count_by (reaches l.mode l.low) (candidates l.sessions);
  missed : (later : ℕ) → l.high < later → count_by (reaches l.mode later) (candidates l.sessions) < l.number;
}

abbrev pub decreases-loop-low : goal.decreases-loop-low
decreases-loop-low l = l.high - l.low
