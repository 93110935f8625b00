-- The names that are left differ.
use Rattle.std.proofs.Common.{subst, sym, not}
use Rattle.repl_slots.specs.Slot.{AreSlots, is_named}
use Rattle.repl_slots.proofs.Lists.{slots_filtered}
use Rattle.repl_slots.proofs.slots.Slots.drop_slot.Goals as goal

pub invariant_of-self : goal.invariant_of-self
invariant_of-self c =
    subst AreSlots (sym c.drop_named.ensures) (slots_filtered (λ slot. not (is_named c.args.name.now slot)) _ c.self.invariant)
