-- What each turn of the loop in `last_session` keeps, and that it ends.
use Rattle.std.proofs.Common.{ℕ, ◌-◌, ◌<◌, ◌≤◌, count_by}
use Rattle.repl_names.specs.Order.{is_within}
use Rattle.repl_names.specs.Quorum.{candidates}
use Rattle.repl_names.proofs.quorum.last_session.Given as goal

abbrev pub invariant-loop-low : goal.invariant-loop-low
invariant-loop-low l = record {
  ordered : l.low ≤ l.high;
  enough : l.number ≤ count_by (is_within l.priority l.high) (candidates l.sessions);
  fewer : (earlier : ℕ) → earlier < l.low → count_by (is_within l.priority earlier) (candidates l.sessions) < l.number;
}

abbrev pub decreases-loop-low : goal.decreases-loop-low
decreases-loop-low l = l.high - l.low
