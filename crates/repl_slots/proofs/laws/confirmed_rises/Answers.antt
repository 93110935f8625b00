-- The greater of two positions is not below either.
use Rattle.std.proofs.Common.{◌≡◌, ◌≤◌, ℕ, max, Bool, true, false, cond, Option, Some, ap, arith}
use Rattle.repl_slots.specs.Slot.{is_session, risen}
use Rattle.repl_slots.specs.declared.slot.Slot.{Slot}
use Rattle.repl_slots.proofs.laws.confirmed_rises.Goals as goal

abbrev raised : ℕ → Slot → Slot
raised at slot = record {
  name = slot.name;
  temporary = slot.temporary;
  owner = slot.owner;
  restart = risen slot.restart at;
  saved = slot.saved;
}

each : (b : Bool) (at before : ℕ) (slot : Slot) → slot.restart ≡ Some before
    → (after : ℕ) × ((cond b (raised at slot) slot).restart ≡ Some after) × (before ≤ after)
each true at before slot is = (max before at, ap (λ (r : Option ℕ). risen r at) is, omega arith)
each false at before slot is = (before, is, omega arith)

pub returns-clause-raised : goal.returns-clause-raised
returns-clause-raised c = λ session at before slot is. each (is_session session slot.owner) at before slot is

pub returns-clause-others : goal.returns-clause-others
returns-clause-others c = λ session at slot is. ap (λ (b : Bool). cond b (raised at slot) slot) is
