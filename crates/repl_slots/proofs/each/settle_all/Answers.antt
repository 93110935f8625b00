-- One slot more is done.
use Rattle.std.proofs.Common.{◌<◌, length, get_or, rules}
use Rattle.std.proofs.lemmas.List.{get_or_default}
use Rattle.std.proofs.lemmas.List.Edits.{map_over_more}
use Rattle.repl_slots.specs.Slot.{settled}
use Rattle.repl_slots.specs.declared.slot.Slot.{Slot}
use Rattle.repl_slots.proofs.each.settle_all.Goals as goal

pub loop-slot-preserved : goal.loop-slot-preserved
loop-slot-preserved c =
    let slot : Slot = get_or c.loop-slot.slot-items c.loop-slot.slot-index c.slot-item.result in
    let within : c.loop-slot.slot-index < length c.loop-slot.slot-items = search rules in
    rw c.settle.ensures (map_over_more settled c.deref_mut-slot-items.result.now c.loop-slot.slot-items c.loop-slot.slot-index slot
    (search rules) c.loop-slot.invariant (get_or_default c.loop-slot.slot-items c.loop-slot.slot-index c.slot-item.result slot within))
