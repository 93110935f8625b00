-- The file `slots`: its one spelling, and the place at which other bytes go wrong. Numbers stand with their highest byte
-- first.
--
--     magic 4 | version 2 | count 2 | and for each slot, in the order of creation: length of its name 1 | name | flag 1 | position 8
--
-- The flag is 1 where the slot has a restart position, and 0 and followed by zeros where it has none.
use Rattle.std.specs.Prelude.{◌≡◌, ℕ, ◌+◌, ◌^◌, ◌<◌, ◌≤◌, ◌⊎◌, List, [], ◌∷◌, ◌++◌, length, take, drop, map, filter, not, codes, slice_index, Option, Some, None, IfSome, is_some}
use Rattle.std.specs.Int.{w16, w64, to_be_bytes}
use Rattle.repl_text.specs.SlotName.{IsSlotName}
use Rattle.repl_slots.specs.Slot.{IsNew, Differ}
use Rattle.repl_slots.specs.declared.slot.Slot.{Slot}
use Rattle.repl_slots.specs.declared.slot.TheConstants.{SLOT_LIMIT}
use Rattle.repl_text.specs.declared.slot_name.TheConstants.{SLOT_NAME_LIMIT}
use Rattle.repl_slots.specs.declared.fault.SlotFault.{SlotFault}
use Rattle.repl_slots.specs.declared.fault.SlotFault.TheVariants as fault

-- ---- what the file keeps

-- of a slot
pub record Entry : Type 0 where
  pub name : List ℕ
  pub restart : Option ℕ

abbrev pub entry_of : Slot → Entry
entry_of slot = record { name = slot.name; restart = slot.restart }

-- of a list of slots: those that are not temporary, with their restart positions
abbrev pub entries_of : List Slot → List Entry
entries_of slots = map entry_of (filter (λ slot. not (is_some slot.temporary)) slots)

-- a slot as it is read: nobody has it in use, and its restart position is saved
pub record IsMounted (slot : Slot) : Type 0 where
  pub lasts : slot.temporary ≡ None
  pub free : slot.owner ≡ None
  pub saved : slot.saved ≡ slot.restart

abbrev pub names_in : List Entry → List (List ℕ)
names_in entries = map (λ entry. entry.name) entries

-- its name is that of a slot, and its position fits
abbrev pub IsEntry : Entry → Type 0
IsEntry entry = IsSlotName entry.name × IfSome entry.restart (λ position. position < 2 ^ 64)

abbrev pub AreEach : List Entry → Type 0
AreEach [] = Unit {0}
AreEach (entry ∷ entries) = IsEntry entry × AreEach entries

-- at most as many as there may be, with names that differ
pub record AreEntries (entries : List Entry) : Type 0 where
  pub few : length entries ≤ SLOT_LIMIT
  pub each : AreEach entries
  pub differ : Differ (names_in entries)

-- ---- its spelling

abbrev pub magic : List ℕ
magic = codes "PGRS"

abbrev pub int16 : ℕ → List ℕ
int16 n = to_be_bytes w16 n

abbrev pub int64 : ℕ → List ℕ
int64 n = to_be_bytes w64 n

abbrev pub position_bytes : Option ℕ → List ℕ
position_bytes None = 0 ∷ int64 0
position_bytes (Some position) = 1 ∷ int64 position

abbrev pub entry_bytes : Entry → List ℕ
entry_bytes entry = length entry.name ∷ (entry.name ++ position_bytes entry.restart)

abbrev pub entries_bytes : List Entry → List ℕ
entries_bytes [] = []
entries_bytes (entry ∷ entries) = entry_bytes entry ++ entries_bytes entries

abbrev pub header_bytes : ℕ → List ℕ
header_bytes count = magic ++ (int16 1 ++ int16 count)

abbrev pub file_bytes : List Entry → List ℕ
file_bytes entries = header_bytes (length entries) ++ entries_bytes entries

-- the file spells these slots
abbrev pub Spells : List Entry → List ℕ → Type 0
Spells entries file = AreEntries entries × (file ≡ file_bytes entries)

-- ---- where it goes wrong

-- the bytes of the field of this size at this place
abbrev pub field : ℕ → ℕ → List ℕ → List ℕ
field at size file = take size (drop at file)

-- the field at this place is all there and as it has to be
abbrev pub Holds : ℕ → ℕ → (List ℕ → Type 0) → List ℕ → Type 0
Holds at size Right file = (at + size ≤ length file) × Right (field at size file)

-- The field at this place goes wrong: the file ends before it does, and the place is the file's length, or it is all there and
-- not as it has to be, and the place is its first byte.
abbrev pub Stops : ℕ → ℕ → (List ℕ → Type 0) → List ℕ → ℕ → Type 0
Stops at size Right file place = ((length file < at + size) × (place ≡ length file))
    ⊎ ((at + size ≤ length file) × (Right (field at size file) → ⊥) × (place ≡ at))

-- what fields have to be

abbrev pub IsMagic : List ℕ → Type 0
IsMagic bytes = bytes ≡ magic

abbrev pub IsVersion : List ℕ → Type 0
IsVersion bytes = bytes ≡ int16 1

abbrev pub IsCount : List ℕ → Type 0
IsCount bytes = (count : ℕ) × (count ≤ SLOT_LIMIT) × (bytes ≡ int16 count)

abbrev pub IsNameLength : List ℕ → Type 0
IsNameLength bytes = (size : ℕ) × (0 < size) × (size ≤ SLOT_NAME_LIMIT) × (bytes ≡ size ∷ [])

abbrev pub IsNewName : List (List ℕ) → List ℕ → Type 0
IsNewName names bytes = IsSlotName bytes × IsNew names bytes

abbrev pub IsFlag : List ℕ → Type 0
IsFlag bytes = (bytes ≡ 0 ∷ []) ⊎ (bytes ≡ 1 ∷ [])

-- zero after the flag 0
abbrev pub IsPosition : ℕ → List ℕ → Type 0
IsPosition flag bytes = flag ≡ 0 → bytes ≡ int64 0

-- the number that the length of the name at this place is
abbrev pub size_at : ℕ → List ℕ → ℕ
size_at at file = slice_index file at

-- a fault at a place of the file that is such a one; memory may be wanting anywhere
abbrev pub IsAt : (ℕ → Type 0) → SlotFault → Type 0
IsAt P (fault.BadSlots place) = P place
IsAt P fault.Memory = Unit {0}
IsAt P fault.Broken = ⊥
IsAt P fault.BadName = ⊥
IsAt P fault.Duplicate = ⊥
IsAt P (fault.Full limit) = ⊥
IsAt P fault.NoSlot = ⊥
IsAt P (fault.InUse session) = ⊥
IsAt P fault.DiskFault = ⊥

-- in the file's first eight bytes
pub data HeaderStops (file : List ℕ) (place : ℕ) : Type 0 where
  in_magic : Stops 0 4 IsMagic file place → HeaderStops file place
  in_version : Holds 0 4 IsMagic file → Stops 4 2 IsVersion file place → HeaderStops file place
  in_count : Holds 0 4 IsMagic file → Holds 4 2 IsVersion file → Stops 6 2 IsCount file place → HeaderStops file place

-- in the slot that stands here, after those with these names
pub data EntryStops (names : List (List ℕ)) (at : ℕ) (file : List ℕ) (place : ℕ) : Type 0 where
  in_length : Stops at 1 IsNameLength file place → EntryStops names at file place
  in_name : Holds at 1 IsNameLength file → Stops (at + 1) (size_at at file) (IsNewName names) file place
      → EntryStops names at file place
  in_flag : Holds at 1 IsNameLength file → Holds (at + 1) (size_at at file) (IsNewName names) file
      → Stops (at + 1 + size_at at file) 1 IsFlag file place → EntryStops names at file place
  in_position : Holds at 1 IsNameLength file → Holds (at + 1) (size_at at file) (IsNewName names) file
      → Holds (at + 1 + size_at at file) 1 IsFlag file
      → Stops (at + 2 + size_at at file) 8 (IsPosition (slice_index file (at + 1 + size_at at file))) file place
      → EntryStops names at file place

-- the file begins with a header of this count and with these slots, and the place after them is this
pub record BeginsWith (count : ℕ) (entries : List Entry) (at : ℕ) (file : List ℕ) : Type 0 where
  pub right : AreEntries entries
  pub rest : List ℕ
  pub begins : file ≡ header_bytes count ++ entries_bytes entries ++ rest
  pub past : at ≡ length (header_bytes count ++ entries_bytes entries)

-- The file goes wrong at this place first: in its header, in the slot after some that are right, or after its last slot, where
-- more bytes stand.
pub data FileStops (file : List ℕ) (place : ℕ) : Type 0 where
  in_header : HeaderStops file place → FileStops file place
  in_slot : (count : ℕ) (entries : List Entry) (at : ℕ) → count ≤ SLOT_LIMIT → BeginsWith count entries at file
      → length entries < count → EntryStops (names_in entries) at file place → FileStops file place
  past : (count : ℕ) (entries : List Entry) → count ≤ SLOT_LIMIT → BeginsWith count entries place file → length entries ≡ count
      → place < length file → FileStops file place
