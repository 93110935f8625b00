-- No name changed.
use Rattle.std.proofs.Common.{subst, sym, refl}
use Rattle.repl_slots.specs.Slot.{AreSlots, settled}
use Rattle.repl_slots.proofs.Lists.{slots_mapped, named_unless}
use Rattle.repl_slots.proofs.slots.Slots.save.Goals as goal

pub invariant_of-self : goal.invariant_of-self
invariant_of-self g c =
    subst AreSlots (sym c.settle_all.ensures) (slots_mapped settled (λ slot. named_unless _ slot _ refl) _ c.self.invariant)
