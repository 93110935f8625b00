-- What each turn of the loop in `last_priority` keeps, and that it ends.
use Rattle.std.proofs.Common.{ℕ, ◌-◌, ◌<◌, ◌≤◌, count_by}
use Rattle.repl_names.specs.Order.{is_up_to}
use Rattle.repl_names.specs.Quorum.{candidates}
use Rattle.repl_names.proofs.quorum.last_priority.Given as goal

abbrev pub invariant-loop-low : goal.invariant-loop-low
invariant-loop-low l = record {
  ordered : l.low ≤ l.high;
  enough : l.number ≤ count_by (is_up_to l.high) (candidates l.sessions);
  fewer : (earlier : ℕ) → earlier < l.low → count_by (is_up_to earlier) (candidates l.sessions) < l.number;
}

abbrev pub decreases-loop-low : goal.decreases-loop-low
decreases-loop-low l = l.high - l.low
