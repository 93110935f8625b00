-- One slot more.
use Rattle.std.proofs.Common.{◌+◌, Option, ℕ, sym, ap, ◌∙◌, subst, take, arith}
use Rattle.repl_slots.specs.Slot.{IsFloor, lower}
use Rattle.repl_slots.proofs.Floors.{floor_more}
use Rattle.repl_slots.proofs.find.floor_of.Goals as goal

pub loop-slot-preserved : goal.loop-slot-preserved
loop-slot-preserved c =
    let i = c.loop-slot.slot-index in
    let slots = c.args.slots.now in
    subst (λ (f : Option ℕ). IsFloor (take (i + 1) slots) f)
    (sym (c.lower-floor.ensures ∙ ap (lower c.loop-slot.floor) c.held.ensures))
    (floor_more slots i c.loop-slot.floor c.slot-item.result c.loop-slot.invariant (omega arith) c.slot-item.is)
