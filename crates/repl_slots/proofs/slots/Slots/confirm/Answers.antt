-- No name changed.
use Rattle.std.proofs.Common.{subst, sym, refl}
use Rattle.repl_slots.specs.Slot.{AreSlots, confirmed}
use Rattle.repl_slots.proofs.Lists.{slots_mapped, named_if}
use Rattle.repl_slots.proofs.slots.Slots.confirm.Goals as goal

pub invariant_of-self : goal.invariant_of-self
invariant_of-self c =
    subst AreSlots (sym c.confirm_all.ensures) (slots_mapped (confirmed c.args.session c.args.at)
    (λ slot. named_if _ _ slot refl) _ c.self.invariant)
