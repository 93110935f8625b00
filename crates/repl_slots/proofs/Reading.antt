-- How far a file is read: its header and some slots, which it spells so far.
use Rattle.std.proofs.Common.{◌≡◌, ℕ, cond, not, is_some, Option, ◌+◌, ◌<◌, ◌≤◌, List, [], ◌∷◌, ◌++◌, length, map, drop, refl, sym, ◌∙◌, ap, subst, append_assoc, All, arith}
use Rattle.std.proofs.lemmas.List.{length-append, map-append, append-nil, drop_all}
use Rattle.std.proofs.lemmas.List.Elements.{All-append, All-nil}
use Rattle.repl_slots.specs.SlotFile.{AreEntries, BeginsWith, IsAt, in_slot, past, Entry, EntryStops, FileStops, IsEntry, IsMounted, Spells, entries_bytes, entries_of, entry_bytes, entry_of, header_bytes, names_in}
use Rattle.repl_slots.specs.Slot.{IsNew, names_of}
use Rattle.repl_slots.specs.declared.fault.SlotFault.{SlotFault}
use Rattle.repl_slots.specs.declared.fault.SlotFault.TheVariants as fault
use Rattle.repl_slots.specs.declared.slot.Slot.{Slot}
use Rattle.repl_slots.specs.declared.slot.TheConstants.{SLOT_LIMIT}
use Rattle.repl_slots.proofs.Entries.{bytes_append, each_append, entries_append, written_names}
use Rattle.repl_slots.proofs.Lists.{all_one, differ_more}

pub record SoFar (file : List ℕ) (count : ℕ) (slots : List Slot) (at n : ℕ) : Type 0 where
  pub mounted : All IsMounted slots
  pub entries : entries_of slots ≡ map entry_of slots
  pub right : AreEntries (entries_of slots)
  pub bytes : file ≡ header_bytes count ++ entries_bytes (entries_of slots) ++ drop at file
  pub past : at ≡ length (header_bytes count ++ entries_bytes (entries_of slots))
  pub within : at ≤ length file
  pub counted : length (entries_of slots) ≡ n

-- ---- the header is read

pub start : (file : List ℕ) (count : ℕ) → file ≡ header_bytes count ++ drop 8 file → SoFar file count [] 8 0
start file count is = record {
  mounted = All-nil IsMounted;
  entries = refl;
  right = record { few = omega arith; each = tt; differ = tt };
  bytes = is;
  past = refl;
  within = omega (arith, ap length is, length-append (header_bytes count) (drop 8 file));
  counted = refl;
}

-- ---- a slot more is read

module _ (file : List ℕ) (count : ℕ) (slots : List Slot) (at n : ℕ) (so_far : SoFar file count slots at n) (slot : Slot) (end : ℕ)
    (mounted : IsMounted slot) (right : IsEntry (entry_of slot)) (new : IsNew (names_of slots) slot.name)
    (spelled : drop at file ≡ entry_bytes (entry_of slot) ++ drop end file) (end_is : end ≡ at + length (entry_bytes (entry_of slot)))
    (within : end ≤ length file) where
  one : entries_of (slot ∷ []) ≡ entry_of slot ∷ []
  one = ap (λ (t : Option ℕ). map entry_of (cond (not (is_some t)) (slot ∷ []) [])) mounted.lasts

  entries_are : entries_of (slots ++ slot ∷ []) ≡ entries_of slots ++ entry_of slot ∷ []
  entries_are = entries_append slots (slot ∷ []) ∙ ap (λ (l : List Entry). entries_of slots ++ l) one

  names_are : names_in (entries_of slots) ≡ names_of slots
  names_are = ap names_in so_far.entries ∙ written_names slots

  bytes_are : entries_bytes (entries_of slots ++ entry_of slot ∷ []) ≡ entries_bytes (entries_of slots) ++ entry_bytes (entry_of slot)
  bytes_are = bytes_append (entries_of slots) (entry_of slot ∷ [])
      ∙ ap (λ (l : List ℕ). entries_bytes (entries_of slots) ++ l) (append-nil (entry_bytes (entry_of slot)))

  front_is : header_bytes count ++ entries_bytes (entries_of slots ++ entry_of slot ∷ [])
      ≡ (header_bytes count ++ entries_bytes (entries_of slots)) ++ entry_bytes (entry_of slot)
  front_is = ap (λ (l : List ℕ). header_bytes count ++ l) bytes_are
      ∙ sym (append_assoc (header_bytes count) (entries_bytes (entries_of slots)) (entry_bytes (entry_of slot)))

  right_more : n < count → count ≤ SLOT_LIMIT → AreEntries (entries_of slots ++ entry_of slot ∷ [])
  right_more room few = record {
    few = omega (arith, length-append (entries_of slots) (entry_of slot ∷ []), so_far.counted, room, few);
    each = each_append (entries_of slots) (entry_of slot ∷ []) so_far.right.each (right, tt);
    differ = rw (map-append (λ (e : Entry). e.name) (entries_of slots) (entry_of slot ∷ []))
        (differ_more (names_in (entries_of slots)) slot.name so_far.right.differ (subst (λ (names : List (List ℕ)). IsNew names slot.name)
        (sym names_are) new));
  }

  pub more : n < count → count ≤ SLOT_LIMIT → SoFar file count (slots ++ slot ∷ []) end (n + 1)
  more room few = record {
    mounted = All-append IsMounted slots (slot ∷ []) so_far.mounted (all_one IsMounted slot mounted);
    entries = entries_are ∙ ap (λ (l : List Entry). l ++ entry_of slot ∷ []) so_far.entries ∙ sym (map-append entry_of slots (slot ∷ []));
    right = subst AreEntries (sym entries_are) (right_more room few);
    bytes = so_far.bytes ∙ ap (λ (l : List ℕ). (header_bytes count ++ entries_bytes (entries_of slots)) ++ l) spelled
        ∙ sym (append_assoc (header_bytes count ++ entries_bytes (entries_of slots)) (entry_bytes (entry_of slot)) (drop end file))
        ∙ ap (λ (l : List ℕ). l ++ drop end file) (sym front_is)
        ∙ ap (λ (es : List Entry). header_bytes count ++ entries_bytes es ++ drop end file) (sym entries_are);
    past = end_is ∙ ap (λ (k : ℕ). k + length (entry_bytes (entry_of slot))) so_far.past
        ∙ sym (length-append (header_bytes count ++ entries_bytes (entries_of slots)) (entry_bytes (entry_of slot)))
        ∙ ap length (sym front_is) ∙ ap (λ (es : List Entry). length (header_bytes count ++ entries_bytes es)) (sym entries_are);
    within = within;
    counted = ap length entries_are ∙ length-append (entries_of slots) (entry_of slot ∷ []) ∙ ap (λ (k : ℕ). k + 1) so_far.counted;
  }

-- ---- how reading ends

module _ (file : List ℕ) (count : ℕ) (slots : List Slot) (at n : ℕ) (so_far : SoFar file count slots at n) (few : count ≤ SLOT_LIMIT) where
  begun : BeginsWith count (entries_of slots) at file
  begun = record { right = so_far.right; rest = drop at file; begins = so_far.bytes; past = so_far.past }

  pub stops_in_slot : (place : ℕ) → n < count → EntryStops (names_of slots) at file place → FileStops file place
  stops_in_slot place room stops = in_slot count (entries_of slots) at few begun (omega (arith, so_far.counted, room))
      (subst (λ (names : List (List ℕ)). EntryStops names at file place) (sym (ap names_in so_far.entries ∙ written_names slots)) stops)

  pub stops_past : n ≡ count → at < length file → FileStops file at
  stops_past all more = past count (entries_of slots) few begun (so_far.counted ∙ all) more

  pub spells : n ≡ count → length file ≤ at → Spells (entries_of slots) file
  spells all none = (
    so_far.right,
    so_far.bytes ∙ ap (λ (l : List ℕ). header_bytes count ++ entries_bytes (entries_of slots) ++ l) (drop_all at file none)
        ∙ append-nil (header_bytes count ++ entries_bytes (entries_of slots))
        ∙ ap (λ (k : ℕ). header_bytes k ++ entries_bytes (entries_of slots)) (sym (so_far.counted ∙ all)),
  )

-- a fault at such a place is one at another
pub at_weaker : (P Q : ℕ → Type 0) → ((place : ℕ) → P place → Q place) → (f : SlotFault) → IsAt P f → IsAt Q f
at_weaker P Q leads (fault.BadSlots place) p = leads place p
at_weaker P Q leads fault.Memory p = tt
at_weaker P Q leads fault.Broken p = absurd p
at_weaker P Q leads fault.BadName p = absurd p
at_weaker P Q leads fault.Duplicate p = absurd p
at_weaker P Q leads (fault.Full limit) p = absurd p
at_weaker P Q leads fault.NoSlot p = absurd p
at_weaker P Q leads (fault.InUse session) p = absurd p
at_weaker P Q leads fault.DiskFault p = absurd p
