-- The positions that hold the log back are those of the slots.
use Rattle.std.proofs.Common.{◌≡◌, ℕ, ◌≤◌, List, [], ◌∷◌, ◌++◌, Option, Some, None, All, option_to_list, arith}
use Rattle.std.proofs.lemmas.List.Elements.{All-nil, All-cons, All-tail}
use Rattle.repl_slots.specs.Slot.{IsFloor, IsKeptFrom, held, held_positions}
use Rattle.repl_slots.specs.declared.slot.Slot.{Slot}
use Rattle.repl_slots.proofs.laws.floor_keeps.Goals as goal

-- of a slot and the ones after it
split_none : (h : Option ℕ) (ps : List ℕ) → option_to_list h ++ ps ≡ [] → IsKeptFrom None h × (ps ≡ [])
split_none None ps none = (tt, none)
split_none (Some p) ps none = absurd cc

split_some : (floor : ℕ) (h : Option ℕ) (ps : List ℕ) → All (λ p. floor ≤ p) (option_to_list h ++ ps)
    → IsKeptFrom (Some floor) h × All (λ p. floor ≤ p) ps
split_some floor None ps all = (tt, all)
split_some floor (Some p) ps all = (all 0 p (omega arith), All-tail (λ q. floor ≤ q) p ps all)

none_held : (slots : List Slot) → held_positions slots ≡ [] → All (λ slot. IsKeptFrom None (held slot)) slots
none_held [] none = All-nil (λ slot. IsKeptFrom None (held slot))
none_held (slot ∷ slots) none =
    let split = split_none (held slot) (held_positions slots) none in
    All-cons (λ s. IsKeptFrom None (held s)) slot slots split.0 (none_held slots split.1)

some_held : (floor : ℕ) (slots : List Slot) → All (λ p. floor ≤ p) (held_positions slots)
    → All (λ slot. IsKeptFrom (Some floor) (held slot)) slots
some_held floor [] all = All-nil (λ slot. IsKeptFrom (Some floor) (held slot))
some_held floor (slot ∷ slots) all =
    let split = split_some floor (held slot) (held_positions slots) all in
    All-cons (λ s. IsKeptFrom (Some floor) (held s)) slot slots split.0 (some_held floor slots split.1)

pub returns : goal.returns
returns c = λ slots floor is. kept slots floor is
  where
    kept : (slots : List Slot) (floor : Option ℕ) → IsFloor slots floor → All (λ slot. IsKeptFrom floor (held slot)) slots
    kept slots None is = none_held slots is
    kept slots (Some floor) is = some_held floor slots is.1
