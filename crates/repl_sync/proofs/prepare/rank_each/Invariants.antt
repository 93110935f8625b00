-- What each turn of the loop in `rank_each` keeps: sessions before it have their priority, and the others are as they were.
use Rattle.std.proofs.Common.{◌≡◌, ◌≤◌, ℕ, ◌<◌, slice_index_or}
use Rattle.repl_sync.specs.declared.session.Entry.{Entry}
use Rattle.repl_sync.specs.Inside.{RankedOne}
use Rattle.repl_sync.proofs.prepare.rank_each.Given as goal

abbrev pub invariant-loop-entry : goal.invariant-loop-entry
invariant-loop-entry l = record {
  ranked : (k : ℕ) (d : Entry) → k < l.entry-index → RankedOne l.list (slice_index_or l.fn.entries k d) (slice_index_or l.entries k d);
  left : (k : ℕ) (d : Entry) → l.entry-index ≤ k → slice_index_or l.entries k d ≡ slice_index_or l.fn.entries k d;
}
