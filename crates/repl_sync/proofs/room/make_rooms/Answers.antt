-- What `make_rooms` ensures.
use Rattle.std.proofs.Common.{get_or, set, ◌+◌, ◌<◌, length, arith}
use Rattle.repl_sync.specs.Inside.{HasPlaces, Refitted}
use Rattle.repl_sync.proofs.Rooms.{left_more, ones_more, pairs_more, refitted_all, same_place}
use Rattle.repl_sync.proofs.room.make_rooms.Goals as goal

pub returns-in_err-make_room-clause-each : goal.returns-in_err-make_room-clause-each
returns-in_err-make_room-clause-each c =
    let olds = c.args.holdings.now in
    let nows = c.loop-holding.holdings in
    let i = c.loop-holding.holding-index in
    let new = c.make_room.new.holding in
    let l : i < length nows = omega arith in
    refitted_all c.args.count c.args.longest olds (set nows i new) (i + 1)
    (pairs_more (Refitted c.args.count c.args.longest) olds nows i (get_or nows i c.holding-item.result) new l
    c.loop-holding.invariant.refitted c.loop-holding.invariant.left
    (same_place nows i c.holding-item.result (get_or nows i c.holding-item.result) l) c.make_room.ensures.refitted)
    (left_more olds nows i new c.loop-holding.invariant.left)

pub loop-holding-preserved : goal.loop-holding-preserved
loop-holding-preserved c =
    let olds = c.args.holdings.now in
    let nows = c.loop-holding.holdings in
    let i = c.loop-holding.holding-index in
    let new = c.make_room.new.holding in
    let l : i < length nows = omega arith in
    record {
      refitted = pairs_more (Refitted c.args.count c.args.longest) olds nows i (get_or nows i c.holding-item.result) new l
          c.loop-holding.invariant.refitted c.loop-holding.invariant.left
          (same_place nows i c.holding-item.result (get_or nows i c.holding-item.result) l) c.make_room.ensures.refitted;
      roomy = ones_more (HasPlaces c.args.count c.args.longest) nows i new l c.loop-holding.invariant.roomy
          c.in_ok-make_room.ensures.room;
      left = left_more olds nows i new c.loop-holding.invariant.left;
    }
