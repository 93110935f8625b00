-- What each turn of the loop in `release_each` keeps: tickets before it are settled, and the others are as they were.
use Rattle.std.proofs.Common.{◌≡◌, ◌≤◌, ℕ, ◌<◌, slice_index_or}
use Rattle.repl_sync.specs.declared.holding.Holding.{Holding}
use Rattle.repl_sync.specs.Inside.{ReleasesOne}
use Rattle.repl_sync.proofs.release.release_each.Given as goal

abbrev pub invariant-loop-holding : goal.invariant-loop-holding
invariant-loop-holding l = record {
  settled : (k : ℕ) (d : Holding) → k < l.holding-index
      → ReleasesOne l.list l.entries (slice_index_or l.fn.holdings k d) (slice_index_or l.holdings k d);
  left : (k : ℕ) (d : Holding) → l.holding-index ≤ k → slice_index_or l.holdings k d ≡ slice_index_or l.fn.holdings k d;
}
