-- Lists of slots whose names differ: with one more, with fewer, and with other fields.
use Rattle.std.proofs.Common.{◌≡◌, ◌≢◌, ℕ, ◌<◌, ◌≤◌, Bool, true, false, cond, List, [], ◌∷◌, ◌++◌, length, map, filter, Some, None, refl, sym, ◌∙◌, ap, subst, All, arith}
use Rattle.std.proofs.lemmas.Bool.{false≢true}
use Rattle.std.proofs.lemmas.Slice.Eq.{bytes_eq-Decides}
use Rattle.std.proofs.lemmas.List.{length-append, map-append, length-map}
use Rattle.std.proofs.lemmas.List.Elements.{All-append, All-map, All-filter}
use Rattle.repl_text.specs.SlotName.{IsSlotName}
use Rattle.repl_slots.specs.Slot.{IsNew, Differ, AreSlots, names_of, slot_named, is_named}
use Rattle.repl_slots.specs.declared.slot.Slot.{Slot}
use Rattle.repl_slots.specs.declared.slot.TheConstants.{SLOT_LIMIT}

-- one name more after names that differ
pub new_past : (names : List (List ℕ)) (name other : List ℕ) → IsNew names other → name ≢ other → IsNew (names ++ name ∷ []) other
new_past [] name other new differs = (differs, tt)
new_past (first ∷ names) name other new differs = (new.0, new_past names name other new.1 differs)

pub differ_more : (names : List (List ℕ)) (name : List ℕ) → Differ names → IsNew names name → Differ (names ++ name ∷ [])
differ_more [] name differ new = (tt, tt)
differ_more (first ∷ names) name differ new =
    (new_past names name first differ.0 (λ same. new.0 (sym same)), differ_more names name differ.1 new.1)

-- no slot has the name
pub new_where_none : (name : List ℕ) (slots : List Slot) → slot_named name slots ≡ None → IsNew (names_of slots) name
new_where_none name [] none = tt
new_where_none name (slot ∷ slots) none = each (is_named name slot) refl (new_where_none name slots) none
  where
    each : (b : Bool) → is_named name slot ≡ b → (slot_named name slots ≡ None → IsNew (names_of slots) name)
        → cond b (Some slot) (slot_named name slots) ≡ None → IsNew (names_of (slot ∷ slots)) name
    each true is rest h = absurd cc
    each false is rest h = (λ same. false≢true (sym is ∙ (bytes_eq-Decides slot.name name).1 same), rest h)

pub found_not_new : (name : List ℕ) (slots : List Slot) (slot : Slot) → slot_named name slots ≡ Some slot → IsNew (names_of slots) name → ⊥
found_not_new name [] slot found new = absurd cc
found_not_new name (first ∷ slots) slot found new = each (is_named name first) refl (found_not_new name slots slot) found
  where
    each : (b : Bool) → is_named name first ≡ b → (slot_named name slots ≡ Some slot → IsNew (names_of slots) name → ⊥)
        → cond b (Some first) (slot_named name slots) ≡ Some slot → ⊥
    each true is rest h = new.0 ((bytes_eq-Decides first.name name).0 is)
    each false is rest h = rest h new.1

pub all_one : {X : Type 0} (P : X → Type 0) (x : X) → P x → All P (x ∷ [])
all_one P x p k d lt = let is : k ≡ 0 = omega arith in rw is p

pub slots_more : (slots : List Slot) (slot : Slot) → AreSlots slots → length slots < SLOT_LIMIT → IsSlotName slot.name
    → slot_named slot.name slots ≡ None → AreSlots (slots ++ slot ∷ [])
slots_more slots slot are room named none = record {
  few = omega (arith, length-append slots (slot ∷ []));
  named = All-append (λ s. IsSlotName s.name) slots (slot ∷ []) are.named (all_one (λ s. IsSlotName s.name) slot named);
  differ = rw (map-append (λ (s : Slot). s.name) slots (slot ∷ [])) (differ_more (names_of slots) slot.name are.differ
      (new_where_none slot.name slots none));
}

-- fewer slots
pub length-filter : {X : Type 0} (p : X → Bool) (xs : List X) → length (filter p xs) ≤ length xs
length-filter p [] = omega arith
length-filter {X = X} p (x ∷ xs) = each (p x) (length-filter p xs)
  where
    each : (b : Bool) → length (filter p xs) ≤ length xs → length (cond b (x ∷ filter p xs) (filter p xs)) ≤ length (x ∷ xs)
    each true le = omega arith
    each false le = omega arith

new_filtered : (p : Slot → Bool) (slots : List Slot) (name : List ℕ) → IsNew (names_of slots) name → IsNew (names_of (filter p slots)) name
new_filtered p [] name new = tt
new_filtered p (slot ∷ slots) name new = each (p slot) (new_filtered p slots name new.1)
  where
    each : (b : Bool) → IsNew (names_of (filter p slots)) name → IsNew (names_of (cond b (slot ∷ filter p slots) (filter p slots))) name
    each true rest = (new.0, rest)
    each false rest = rest

pub differ_filtered : (p : Slot → Bool) (slots : List Slot) → Differ (names_of slots) → Differ (names_of (filter p slots))
differ_filtered p [] differ = tt
differ_filtered p (slot ∷ slots) differ = each (p slot) (differ_filtered p slots differ.1)
  where
    each : (b : Bool) → Differ (names_of (filter p slots)) → Differ (names_of (cond b (slot ∷ filter p slots) (filter p slots)))
    each true rest = (new_filtered p slots slot.name differ.0, rest)
    each false rest = rest

pub slots_filtered : (p : Slot → Bool) (slots : List Slot) → AreSlots slots → AreSlots (filter p slots)
slots_filtered p slots are = record {
  few = omega (arith, length-filter p slots, are.few);
  named = All-filter p (λ s. IsSlotName s.name) slots are.named;
  differ = differ_filtered p slots are.differ;
}

-- slots with other fields
names_mapped : (f : Slot → Slot) (same : (slot : Slot) → (f slot).name ≡ slot.name) (slots : List Slot)
    → names_of (map f slots) ≡ names_of slots
names_mapped f same [] = refl
names_mapped f same (slot ∷ slots) = ap (λ (n : List ℕ). n ∷ names_of (map f slots)) (same slot)
    ∙ ap (λ (l : List (List ℕ)). slot.name ∷ l) (names_mapped f same slots)

pub slots_mapped : (f : Slot → Slot) (same : (slot : Slot) → (f slot).name ≡ slot.name) (slots : List Slot) → AreSlots slots
    → AreSlots (map f slots)
slots_mapped f same slots are = record {
  few = omega (arith, length-map {A = Slot} {B = Slot} slots f, are.few);
  named = All-map (λ s. IsSlotName s.name) f slots (λ k d lt. subst IsSlotName (sym (same _)) (are.named k d lt));
  differ = subst Differ (sym (names_mapped f same slots)) are.differ;
}

-- whichever it is, its name is the same
pub named_if : (b : Bool) (one other : Slot) → one.name ≡ other.name → (cond b one other).name ≡ other.name
named_if true one other same = same
named_if false one other same = refl

pub named_unless : (b : Bool) (one other : Slot) → other.name ≡ one.name → (cond b one other).name ≡ one.name
named_unless true one other same = refl
named_unless false one other same = same
