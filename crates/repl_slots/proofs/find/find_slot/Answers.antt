-- The slot lent is the first of that name.
use Rattle.std.proofs.Common.{◌≡◌, Option, Some, None, MatchOption, sym, rules, tests}
use Rattle.std.specs.Option.{option_map}
use Rattle.std.specs.Borrow.{Bor}
use Rattle.std.proofs.lemmas.Iterator.{YieldsList-from_slice}
use Rattle.std.proofs.lemmas.Iterator.Search.{find_from_yields_List}
use Rattle.repl_slots.specs.Slot.{slot_named, is_named}
use Rattle.repl_slots.specs.declared.slot.Slot.{Slot}
use Rattle.repl_slots.proofs.find.find_slot.Goals as goal

lent : (r : Option (Bor Slot)) (found : Option Slot) → option_map (λ x. x.now) r ≡ found
    → MatchOption r (found ≡ None) (λ slot. found ≡ Some slot.now)
lent None found is = sym is
lent (Some x) found is = sym is

pub returns : goal.returns
returns c =
    let found = find_from_yields_List (is_named c.args.name.now) _ _ c.find.result c.find.ensures.ran
    (YieldsList-from_slice c.args.slots.now cc) (λ x b q k. search (rules, tests)) in
    lent c.find.result (slot_named c.args.name.now c.args.slots.now) found
