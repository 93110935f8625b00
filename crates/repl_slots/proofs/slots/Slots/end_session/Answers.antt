-- The names that are left differ.
use Rattle.std.proofs.Common.{subst, sym, refl, not}
use Rattle.repl_slots.specs.Slot.{AreSlots, released, is_session}
use Rattle.repl_slots.proofs.Lists.{slots_filtered, slots_mapped, named_if}
use Rattle.repl_slots.proofs.slots.Slots.end_session.Goals as goal

pub invariant_of-self : goal.invariant_of-self
invariant_of-self c =
    subst AreSlots (sym c.release_all.ensures) (slots_mapped (released c.args.session)
    (λ slot. named_if _ _ slot refl) _
    (subst AreSlots (sym c.drop_temporary.ensures) (slots_filtered (λ slot. not (is_session c.args.session slot.temporary)) _
    c.self.invariant)))
