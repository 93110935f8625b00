-- What the file keeps of a list of slots, slot by slot.
use Rattle.std.proofs.Common.{◌≡◌, ℕ, ◌+◌, ◌<◌, ◌≤◌, Bool, true, false, cond, not, List, [], ◌∷◌, ◌++◌, length, map, filter, take, get_or, refl, sym, ◌∙◌, ap, subst, is_some, append_assoc, arith}
use Rattle.std.proofs.lemmas.List.{take_more}
use Rattle.repl_slots.specs.SlotFile.{AreEach, AreEntries, Entry, entries_bytes, entries_of, entry_bytes, entry_of, names_in}
use Rattle.repl_slots.specs.Slot.{AreSlots, names_of, Differ}
use Rattle.repl_slots.proofs.Lists.{differ_filtered, length-filter}
use Rattle.repl_slots.specs.declared.slot.Slot.{Slot}

-- those that are written
abbrev kept : List Slot → List Slot
kept slots = filter (λ (s : Slot). not (is_some s.temporary)) slots

pub entries_append : (xs ys : List Slot) → entries_of (xs ++ ys) ≡ entries_of xs ++ entries_of ys
entries_append [] ys = refl
entries_append (slot ∷ xs) ys = each (not (is_some slot.temporary)) (entries_append xs ys)
  where
    each : (b : Bool) → entries_of (xs ++ ys) ≡ entries_of xs ++ entries_of ys
        → map entry_of (cond b (slot ∷ kept (xs ++ ys)) (kept (xs ++ ys))) ≡ map entry_of (cond b (slot ∷ kept xs) (kept xs))
        ++ entries_of ys
    each true rest = ap (λ (l : List Entry). entry_of slot ∷ l) rest
    each false rest = rest

pub entries_more : (slots : List Slot) (i : ℕ) (slot : Slot) → i < length slots → slot ≡ get_or slots i slot
    → entries_of (take (i + 1) slots) ≡ entries_of (take i slots) ++ entries_of (slot ∷ [])
entries_more slots i slot lt is =
    ap entries_of (take_more slots i slot lt ∙ ap (λ (s : Slot). take i slots ++ s ∷ []) (sym is))
    ∙ entries_append (take i slots) (slot ∷ [])

pub bytes_append : (xs ys : List Entry) → entries_bytes (xs ++ ys) ≡ entries_bytes xs ++ entries_bytes ys
bytes_append [] ys = refl
bytes_append (entry ∷ xs) ys = ap (λ (l : List ℕ). entry_bytes entry ++ l) (bytes_append xs ys)
    ∙ sym (append_assoc (entry_bytes entry) (entries_bytes xs) (entries_bytes ys))

pub each_append : (xs ys : List Entry) → AreEach xs → AreEach ys → AreEach (xs ++ ys)
each_append [] ys first second = second
each_append (entry ∷ xs) ys first second = (first.0, each_append xs ys first.1 second)

-- the names that are written are among those of the slots
pub written_names : (slots : List Slot) → names_in (map entry_of slots) ≡ names_of slots
written_names [] = refl
written_names (slot ∷ slots) = ap (λ (l : List (List ℕ)). slot.name ∷ l) (written_names slots)

pub written_differ : (slots : List Slot) → Differ (names_of slots) → Differ (names_in (entries_of slots))
written_differ slots differ = subst Differ (sym (written_names (filter (λ (s : Slot). not (is_some s.temporary)) slots)))
    (differ_filtered (λ (s : Slot). not (is_some s.temporary)) slots differ)

pub length-map_entries : (slots : List Slot) → length (map entry_of slots) ≡ length slots
length-map_entries [] = refl
length-map_entries (slot ∷ slots) = omega (arith, length-map_entries slots)

pub written_few : (slots : List Slot) → length (entries_of slots) ≤ length slots
written_few slots = omega (
  arith,
  length-map_entries (filter (λ (s : Slot). not (is_some s.temporary)) slots),
  length-filter
      (λ (s : Slot). not (is_some s.temporary)) slots,
)

pub written_are : (slots : List Slot) → AreSlots slots → AreEach (entries_of slots) → AreEntries (entries_of slots)
written_are slots are each = record {
  few = omega (arith, written_few slots, are.few);
  each = each;
  differ = written_differ slots are.differ;
}
