-- No name changed.
use Rattle.std.proofs.Common.{subst, sym, refl}
use Rattle.repl_slots.specs.Slot.{AreSlots, acquired}
use Rattle.repl_slots.proofs.Lists.{slots_mapped, named_if}
use Rattle.repl_slots.proofs.slots.Slots.acquire.Goals as goal

pub invariant_of-self : goal.invariant_of-self
invariant_of-self c =
    subst AreSlots (sym c.acquire_named.ensures) (slots_mapped (acquired c.args.name.now c.args.session)
    (λ slot. named_if _ _ slot refl) _ c.self.invariant)
