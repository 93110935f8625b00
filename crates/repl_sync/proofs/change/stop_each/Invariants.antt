-- What each turn of the loop in `stop_each` keeps: sessions before it have stopped, and the others are as they were.
use Rattle.std.proofs.Common.{◌≡◌, ◌≤◌, ℕ, ◌<◌, slice_index_or}
use Rattle.repl_sync.specs.declared.session.Entry.{Entry}
use Rattle.repl_sync.specs.Inside.{Stopped}
use Rattle.repl_sync.proofs.change.stop_each.Given as goal

abbrev pub invariant-loop-entry : goal.invariant-loop-entry
invariant-loop-entry l = record {
  stopped : (k : ℕ) (d : Entry) → k < l.entry-index → Stopped (slice_index_or l.fn.entries k d) (slice_index_or l.entries k d);
  left : (k : ℕ) (d : Entry) → l.entry-index ≤ k → slice_index_or l.entries k d ≡ slice_index_or l.fn.entries k d;
}
