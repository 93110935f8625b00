-- What each turn of the loop in `cancel_each` keeps: waits before it are cancelled, and the other tickets are as they were.
use Rattle.std.proofs.Common.{◌≡◌, ◌≤◌, ℕ, ◌<◌, slice_index_or}
use Rattle.repl_sync.specs.declared.holding.Holding.{Holding}
use Rattle.repl_sync.specs.Inside.{CancelledOne}
use Rattle.repl_sync.proofs.ticket.cancel_each.Given as goal

abbrev pub invariant-loop-holding : goal.invariant-loop-holding
invariant-loop-holding l = record {
  cancelled : (k : ℕ) (d : Holding) → k < l.holding-index → CancelledOne (slice_index_or l.fn.holdings k d) (slice_index_or l.holdings k d);
  left : (k : ℕ) (d : Holding) → l.holding-index ≤ k → slice_index_or l.holdings k d ≡ slice_index_or l.fn.holdings k d;
}
