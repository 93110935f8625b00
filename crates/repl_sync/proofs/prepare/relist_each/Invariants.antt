-- What each turn of the loop in `relist_each` keeps: tickets before it have the list, and there are copies for the others.
use Rattle.std.proofs.Common.{◌≡◌, ◌+◌, ◌≤◌, ℕ, ◌<◌, All, length, vec_len, slice_index_or}
use Rattle.repl_names.specs.StandbyList.{Listing}
use Rattle.repl_sync.specs.declared.holding.Holding.{Holding}
use Rattle.repl_sync.specs.Inside.{RelistedOne}
use Rattle.repl_sync.proofs.prepare.relist_each.Given as goal

abbrev pub invariant-loop-holding : goal.invariant-loop-holding
invariant-loop-holding l = record {
  copies : vec_len l.copies + l.holding-index ≡ length l.holdings;
  same : (list : Listing) → All (λ x. x ≡ list) l.fn.copies.items → All (λ x. x ≡ list) l.copies.items;
  relisted : (list : Listing) → All (λ x. x ≡ list) l.fn.copies.items → (k : ℕ) (d : Holding) → k < l.holding-index
      → RelistedOne list (slice_index_or l.fn.holdings k d) (slice_index_or l.holdings k d);
  left : (k : ℕ) (d : Holding) → l.holding-index ≤ k → slice_index_or l.holdings k d ≡ slice_index_or l.fn.holdings k d;
}
