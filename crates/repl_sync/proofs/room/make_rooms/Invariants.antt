-- What each turn of the loop in `make_rooms` keeps: tickets before it have room, and the others are as they were.
use Rattle.std.proofs.Common.{◌≡◌, ◌≤◌, ℕ, ◌<◌, slice_index_or}
use Rattle.repl_sync.specs.declared.holding.Holding.{Holding}
use Rattle.repl_sync.specs.Inside.{HasPlaces, Refitted}
use Rattle.repl_sync.proofs.room.make_rooms.Given as goal

abbrev pub invariant-loop-holding : goal.invariant-loop-holding
invariant-loop-holding l = record {
  refitted : (k : ℕ) (d : Holding) → k < l.holding-index
      → Refitted l.count l.longest (slice_index_or l.fn.holdings k d) (slice_index_or l.holdings k d);
  roomy : (k : ℕ) (d : Holding) → k < l.holding-index → HasPlaces l.count l.longest (slice_index_or l.holdings k d);
  left : (k : ℕ) (d : Holding) → l.holding-index ≤ k → slice_index_or l.holdings k d ≡ slice_index_or l.fn.holdings k d;
}
