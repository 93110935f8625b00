-- With one slot more, of a name that no other has, there are at most as many as there may be.
use Rattle.std.proofs.Common.{◌≡◌, ◌++◌, ◌∷◌, [], ◌<◌, List, ℕ, false, Option, Some, None, MatchOption, is_some, length, ap, sym, ◌∙◌, arith, subst, rules}
use Rattle.std.specs.Borrow.{Bor}
use Rattle.repl_slots.specs.Slot.{AreSlots, slot_named}
use Rattle.repl_text.specs.SlotName.{IsSlotName}
use Rattle.repl_slots.specs.declared.slot.Slot.{Slot}
use Rattle.repl_slots.specs.declared.slot.TheConstants.{SLOT_LIMIT}
use Rattle.repl_slots.proofs.Lists.{slots_more}
use Rattle.repl_slots.proofs.slots.Slots.create.Goals as goal

none_found : (r : Option (Bor Slot)) (found : Option Slot) → false ≡ is_some r
    → MatchOption r (found ≡ None) (λ slot. found ≡ Some slot.now) → found ≡ None
none_found None found none is = is
none_found (Some x) found none is = absurd cc

more : (now base slots seen : List Slot) (slot : Slot) (name : List ℕ) → now ≡ base ++ slot ∷ [] → base ≡ slots → AreSlots slots
    → length slots < SLOT_LIMIT → slot.name ≡ name → IsSlotName name → seen ≡ slots → slot_named name seen ≡ None → AreSlots now
more now base slots seen slot name is kept are room same named seen_is none =
    subst AreSlots (sym (is ∙ ap (λ (l : List Slot). l ++ slot
    ∷ []) kept)) (slots_more slots slot are room (subst IsSlotName (sym same) named)
    (ap (λ (n : List ℕ). slot_named n slots) same ∙ ap (slot_named name) (sym seen_is) ∙ none))

pub invariant_of-self-2 : goal.invariant_of-self-2
invariant_of-self-2 c =
    let slots = c.self.inside.list.items in
    let room : length slots < SLOT_LIMIT = omega arith in
    more c.push_reserved.new.self.items c.reserve.new.self.items slots c.deref.result.now _ c.args.name.now c.push_reserved.ensures.items
    c.in_ok-reserve.ensures.items c.self.invariant room c.in_ok-copied.ensures (search rules) c.deref.ensures.value
    (none_found c.find_slot.result _ c.if-is_some.ensures c.find_slot.ensures)
