-- What is mounted is what the file says.
use Rattle.std.proofs.Common.{◌≡◌, ℕ, ◌-◌, min, cond, not, is_some, false, List, [], ◌∷◌, ◌++◌, length, map, take, drop, Option, Some, None, Ok, Err, refl, sym, ◌∙◌, ap, subst, All, arith}
use Rattle.std.proofs.lemmas.List.{length-take, take_at}
use Rattle.std.proofs.lemmas.List.Elements.{All-tail, All-nil, All-cons}
use Rattle.repl_disk.specs.Folder.{ToldFiles, IfTold, ReadsAt}
use Rattle.repl_text.specs.SlotName.{IsSlotName}
use Rattle.repl_slots.specs.Slot.{AreSlots, Differ}
use Rattle.repl_slots.specs.SlotFile.{AreEach, AreEntries, Entry, FileStops, IsAt, IsMounted, Spells, entries_of, entry_of, names_in}
use Rattle.repl_slots.specs.Stored.{Mounted, StoredIn, slots_name}
use Rattle.repl_slots.specs.declared.slot.Slot.{Slot}
use Rattle.repl_slots.specs.declared.fault.SlotFault.{SlotFault}
use Rattle.repl_slots.specs.declared.fault.SlotFault.TheVariants as fault
use Rattle.repl_slots.proofs.Entries.{entries_append, length-map_entries, written_names}
use Rattle.repl_slots.proofs.Fronts.{front_spells, front_stops}

-- ---- the slots that were read

one_mounted : (slot : Slot) → IsMounted slot → entries_of (slot ∷ []) ≡ entry_of slot ∷ []
one_mounted slot is = ap (λ (t : Option ℕ). map entry_of (cond (not (is_some t)) (slot ∷ []) [])) is.lasts

pub all_written : (slots : List Slot) → All IsMounted slots → entries_of slots ≡ map entry_of slots
all_written [] all = refl
all_written (slot ∷ slots) all =
    entries_append (slot ∷ []) slots ∙ ap (λ (l : List Entry). l ++ entries_of slots) (one_mounted slot (all 0 slot (omega arith)))
    ∙ ap (λ (l : List Entry). entry_of slot ∷ l) (all_written slots (All-tail IsMounted slot slots all))

named_each : (slots : List Slot) → AreEach (map entry_of slots) → All (λ slot. IsSlotName slot.name) slots
named_each [] each = All-nil (λ slot. IsSlotName slot.name)
named_each (slot ∷ slots) each = All-cons (λ slot. IsSlotName slot.name) slot slots each.0.0 (named_each slots each.1)

pub slots_are : (slots : List Slot) → All IsMounted slots → AreEntries (entries_of slots) → AreSlots slots
slots_are slots all are =
    let same = all_written slots all in
    record {
      few = omega (arith, ap length same, length-map_entries slots, are.few);
      named = named_each slots (subst AreEach same are.each);
      differ = subst Differ (ap names_in same ∙ written_names slots) are.differ;
    }

-- ---- the file that was read

-- the front of the room is a front of the file
front_read : (file room after : List ℕ) (count : ℕ) → count ≡ min (length room) (length file - 0)
    → after ≡ take count (drop 0 file) ++ drop count room → take count after ≡ take count file
front_read file room after count counted read =
    ap (take count) read ∙ take_at (take count file) (drop count room) count (omega (arith, length-take count file, counted))

pub mounts : (told : ToldFiles) (slots : List Slot) (room after : List ℕ) (count : ℕ)
    → IfTold told (λ folder. ReadsAt (folder slots_name) 0 count room after) → length room ≡ 739
    → All IsMounted slots → Spells (entries_of slots) (take count after)
    → IfTold told (λ folder. Mounted folder (Ok (record { slots = slots; broken = false })))
mounts None slots room after count reads len all spells = tt
mounts (Some folder) slots room after count reads len all spells =
    let front = front_read reads.bytes room after count reads.counted reads.read in
    let whole = front_spells (entries_of slots) reads.bytes count (omega (arith, reads.counted, len))
    (subst (Spells (entries_of slots)) front spells) in
    (refl, all, subst (StoredIn (entries_of slots)) (sym reads.there) whole)

pub refuses : (told : ToldFiles) (e : SlotFault) (room after : List ℕ) (count : ℕ)
    → IfTold told (λ folder. ReadsAt (folder slots_name) 0 count room after) → length room ≡ 739
    → IsAt (FileStops (take count after)) e → IfTold told (λ folder. Mounted folder (Err e))
refuses None e room after count reads len stops = tt
refuses (Some folder) e room after count reads len stops = each e stops
  where
    each : (e : SlotFault) → IsAt (FileStops (take count after)) e → Mounted folder (Err e)
    each (fault.BadSlots place) stops = (
      reads.bytes,
      reads.there,
      front_stops reads.bytes count place (omega (arith, reads.counted, len))
          (subst (λ (l : List ℕ). FileStops l place) (front_read reads.bytes room after count reads.counted reads.read) stops),
    )
    each fault.Memory stops = tt
    each fault.DiskFault stops = absurd stops
    each fault.Broken stops = absurd stops
    each fault.BadName stops = absurd stops
    each fault.Duplicate stops = absurd stops
    each (fault.Full limit) stops = absurd stops
    each fault.NoSlot stops = absurd stops
    each (fault.InUse session) stops = absurd stops
