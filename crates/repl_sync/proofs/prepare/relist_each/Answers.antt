-- What `relist_each` ensures.
use Rattle.std.proofs.Common.{◌≡◌, ◌<◌, length, get_or, set, subst, length-set, arith}
use Rattle.repl_names.specs.StandbyList.{Listing}
use Rattle.repl_sync.specs.Inside.{RelistedOne}
use Rattle.repl_sync.proofs.Rooms.{all_front, all_last, left_more, pairs_more, same_place}
use Rattle.repl_sync.proofs.prepare.relist_each.Goals as goal

pub loop-holding-preserved : goal.loop-holding-preserved
loop-holding-preserved c =
    let olds = c.args.holdings.now in
    let nows = c.loop-holding.holdings in
    let i = c.loop-holding.holding-index in
    let new = c.relist.new.holding in
    let l : i < length nows = omega arith in
    let size : length (set nows i new) ≡ length nows = length-set nows i new in
    record {
      copies = omega (arith, c.take_last.ensures.len, c.loop-holding.invariant.copies);
      same = λ list all. all_front (λ (x : Listing). x ≡ list) c.loop-holding.copies.items c.take_last.new.self.items c.take_last.result
          c.take_last.ensures.items (c.loop-holding.invariant.same list all);
      relisted = λ list all.
          let is : c.take_last.result ≡ list = all_last (λ (x : Listing). x ≡ list) c.loop-holding.copies.items c.take_last.new.self.items
          c.take_last.result c.take_last.ensures.items (c.loop-holding.invariant.same list all) in
          pairs_more (RelistedOne list) olds nows i (get_or nows i c.holding-item.result) new l (c.loop-holding.invariant.relisted list all)
          c.loop-holding.invariant.left
          (same_place nows i c.holding-item.result (get_or nows i c.holding-item.result) l)
          (subst (λ (x : Listing). RelistedOne x (get_or nows i c.holding-item.result) new) is c.relist.ensures);
      left = left_more olds nows i new c.loop-holding.invariant.left;
    }
