-- No name changed.
use Rattle.std.proofs.Common.{subst, sym, refl}
use Rattle.repl_slots.specs.Slot.{AreSlots, released}
use Rattle.repl_slots.proofs.Lists.{slots_mapped, named_if}
use Rattle.repl_slots.proofs.slots.Slots.release.Goals as goal

pub invariant_of-self : goal.invariant_of-self
invariant_of-self c =
    subst AreSlots (sym c.release_all.ensures) (slots_mapped (released c.args.session)
    (λ slot. named_if _ _ slot refl) _ c.self.invariant)
