-- No slot was found exactly where the name is none of theirs.
use Rattle.std.proofs.Common.{◌≡◌, List, ℕ, Bool, true, false, not, Option, Some, None, MatchOption, IsTrue, ◌↔◌, is_some, refl}
use Rattle.std.proofs.lemmas.Bool.{false≢true}
use Rattle.std.specs.Borrow.{Bor}
use Rattle.repl_slots.specs.Slot.{IsNew, names_of, slot_named}
use Rattle.repl_slots.specs.declared.slot.Slot.{Slot}
use Rattle.repl_slots.proofs.Lists.{new_where_none, found_not_new}
use Rattle.repl_slots.proofs.find.is_new.Goals as goal

new_iff : (r : Option (Bor Slot)) (b : Bool) (slots : List Slot) (name : List ℕ) → is_some r ≡ not b
    → MatchOption r (slot_named name slots ≡ None) (λ slot. slot_named name slots ≡ Some slot.now) → IsTrue b ↔ IsNew (names_of slots) name
new_iff None true slots name e is = (λ _. new_where_none name slots is, λ _. refl)
new_iff None false slots name e is = absurd cc
new_iff (Some x) true slots name e is = absurd cc
new_iff (Some x) false slots name e is = (λ no. absurd (false≢true no), λ new. absurd (found_not_new name slots x.now is new))

pub returns : goal.returns
returns c = new_iff c.find_slot.result c.is_none.result c.args.slots.now c.args.name.now c.is_none.ensures c.find_slot.ensures
