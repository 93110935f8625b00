-- What each turn of the loop in `copies_of` keeps: so many copies are made.
use Rattle.std.proofs.Common.{◌≡◌, All, vec_len}
use Rattle.repl_sync.proofs.prepare.copies_of.Given as goal

abbrev pub invariant-loop : goal.invariant-loop
invariant-loop l = record {
  count : vec_len l.copies ≡ l.counter;
  same : All (λ x. x ≡ l.list) l.copies.items;
}
