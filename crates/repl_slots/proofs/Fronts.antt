-- A file that is longer than any of slots goes wrong where its front does.
use Rattle.std.proofs.Common.{◌≡◌, ℕ, ◌+◌, ◌*◌, ◌<◌, ◌≤◌, min, List, [], ◌∷◌, ◌++◌, length, take, drop, get_or, Option, Some, None, refl, sym, ◌∙◌, ap, subst, append_assoc, inl, inr, arith}
use Rattle.std.proofs.lemmas.List.{length-append, length-take, length-drop, take-append-drop, get_or-take, get_or-drop, places, same_lists, take_all}
use Rattle.std.proofs.lemmas.Bool.{cases_lt}
use Rattle.repl_slots.specs.SlotFile.{AreEach, BeginsWith, Entry, EntryStops, FileStops, HeaderStops, Holds, IsCount, IsFlag, IsMagic, IsNameLength, IsNewName, IsPosition, IsVersion, Spells, Stops, past, entries_bytes, entry_bytes, field, header_bytes, in_count, in_flag, in_header, in_length, in_magic, in_name, in_position, in_slot, in_version, names_in, position_bytes, size_at}
use Rattle.repl_text.specs.declared.slot_name.TheConstants.{SLOT_NAME_LIMIT}

-- ---- how long files are

length-position : (restart : Option ℕ) → length (position_bytes restart) ≡ 9
length-position None = refl
length-position (Some position) = refl

pub length-entry : (entry : Entry) → length (entry_bytes entry) ≡ 10 + length entry.name
length-entry entry = omega (arith, length-append entry.name (position_bytes entry.restart), length-position entry.restart)

length-entries : (entries : List Entry) → AreEach entries → length (entries_bytes entries) ≤ 73 * length entries
length-entries [] each = omega arith
length-entries (entry ∷ entries) each =
    omega (
      arith,
      length-append (entry_bytes entry) (entries_bytes entries),
      length-entry entry,
      each.0.0.short,
      length-entries entries
          each.1,
    )

pub length-file : (entries : List Entry) (file : List ℕ) → Spells entries file → length file < 739
length-file entries file spells =
    omega (
      arith,
      ap length spells.1,
      length-append (header_bytes (length entries)) (entries_bytes entries),
      length-entries entries spells.0.each,
      spells.0.few,
    )

-- ---- a front of a file

field_take : (at size n : ℕ) (file : List ℕ) → at + size ≤ n → field at size (take n file) ≡ field at size file
field_take at size n file le = same_lists _ _ (simp (length-take, length-drop) (omega arith)) (λ k d h. grind (arith, places))

size_take : (at n : ℕ) (file : List ℕ) → at < n → size_at at (take n file) ≡ size_at at file
size_take at n file lt = get_or-take n file at 0 lt

-- the length of a name is the one that its field says
size_small : (at : ℕ) (file : List ℕ) → Holds at 1 IsNameLength file → size_at at file ≤ SLOT_NAME_LIMIT
size_small at file holds =
    let size = holds.1.0 in
    let is : get_or (field at 1 file) 0 0 ≡ size = ap (λ (l : List ℕ). get_or l 0 0) holds.1.3 in
    let same : get_or (field at 1 file) 0 0 ≡ size_at at file = rw (get_or-take 1 (drop at file) 0 0 (omega arith), get_or-drop)
    (ap (λ (k : ℕ). get_or file k 0) (omega arith)) in
    omega (arith, is, same, holds.1.2)

module _ (file : List ℕ) (n : ℕ) (long : n ≤ length file) where
  full : length (take n file) ≡ n
  full = omega (arith, length-take n file)

  holds_on : (at size : ℕ) (Right : List ℕ → Type 0) → at + size ≤ n → Holds at size Right (take n file) → Holds at size Right file
  holds_on at size Right le holds = (omega (arith, le, long), subst Right (field_take at size n file le) holds.1)

  stops_on : (at size : ℕ) (Right : List ℕ → Type 0) (place : ℕ) → at + size ≤ n → Stops at size Right (take n file) place
      → Stops at size Right file place
  stops_on at size Right place le (inl short) = absurd (omega (arith, full, short.0, le))
  stops_on at size Right place le (inr wrong) = inr (
    omega (arith, le, long),
    λ right. wrong.1
        (subst Right (sym (field_take at size n file le)) right),
    wrong.2,
  )

  header_on : (place : ℕ) → 8 ≤ n → HeaderStops (take n file) place → HeaderStops file place
  header_on place le (in_magic stops) = in_magic (stops_on 0 4 IsMagic place (omega (arith, le)) stops)
  header_on place le (in_version magic stops) = in_version (holds_on 0 4 IsMagic (omega (arith, le)) magic)
      (stops_on 4 2 IsVersion place (omega (arith, le)) stops)
  header_on place le (in_count magic version stops) = in_count (holds_on 0 4 IsMagic (omega (arith, le)) magic)
      (holds_on 4 2 IsVersion (omega (arith, le)) version) (stops_on 6 2 IsCount place (omega (arith, le)) stops)

  module _ (names : List (List ℕ)) (at place : ℕ) (le : at + 73 ≤ n) (short : Holds at 1 IsNameLength (take n file)) where
    few : size_at at (take n file) ≤ SLOT_NAME_LIMIT
    few = size_small at (take n file) short

    size_same : size_at at (take n file) ≡ size_at at file
    size_same = size_take at n file (omega (arith, le))

    short_on : Holds at 1 IsNameLength file
    short_on = holds_on at 1 IsNameLength (omega (arith, le)) short

    name_on : Holds (at + 1) (size_at at (take n file)) (IsNewName names) (take n file)
        → Holds (at + 1) (size_at at file) (IsNewName names) file
    name_on name = subst (λ (size : ℕ). Holds (at + 1) size (IsNewName names) file) size_same
        (holds_on (at + 1) (size_at at (take n file)) (IsNewName names) (omega (arith, le, few)) name)

    flag_on : Holds (at + 1 + size_at at (take n file)) 1 IsFlag (take n file) → Holds (at + 1 + size_at at file) 1 IsFlag file
    flag_on flag = subst (λ (size : ℕ). Holds (at + 1 + size) 1 IsFlag file) size_same
        (holds_on (at + 1 + size_at at (take n file)) 1 IsFlag (omega (arith, le, few)) flag)

    in_name_on : Stops (at + 1) (size_at at (take n file)) (IsNewName names) (take n file) place
        → Stops (at + 1) (size_at at file) (IsNewName names) file place
    in_name_on stops = subst (λ (size : ℕ). Stops (at + 1) size (IsNewName names) file place) size_same
        (stops_on (at + 1) (size_at at (take n file)) (IsNewName names) place (omega (arith, le, few)) stops)

    in_flag_on : Stops (at + 1 + size_at at (take n file)) 1 IsFlag (take n file) place
        → Stops (at + 1 + size_at at file) 1 IsFlag file place
    in_flag_on stops = subst (λ (size : ℕ). Stops (at + 1 + size) 1 IsFlag file place) size_same
        (stops_on (at + 1 + size_at at (take n file)) 1 IsFlag place (omega (arith, le, few)) stops)

    in_position_on : Stops (at + 2 + size_at at (take n file)) 8
        (IsPosition (get_or (take n file) (at + 1 + size_at at (take n file)) 0)) (take n file) place
        → Stops (at + 2 + size_at at file) 8 (IsPosition (get_or file (at + 1 + size_at at file) 0)) file place
    in_position_on stops =
        let flag_same : get_or (take n file) (at + 1 + size_at at (take n file)) 0 ≡ get_or file (at + 1 + size_at at (take n file)) 0 =
        get_or-take n file (at + 1 + size_at at (take n file)) 0 (omega (arith, le, few)) in
        subst (λ (size : ℕ). Stops (at + 2 + size) 8 (IsPosition (get_or file (at + 1 + size) 0)) file place) size_same
        (stops_on (at + 2 + size_at at (take n file)) 8 (IsPosition (get_or file (at + 1 + size_at at (take n file)) 0)) place
        (omega (arith, le, few))
        (subst (λ (flag : ℕ). Stops (at + 2 + size_at at (take n file)) 8 (IsPosition flag) (take n file) place) flag_same stops))

  entry_on : (names : List (List ℕ)) (at place : ℕ) → at + 73 ≤ n → EntryStops names at (take n file) place → EntryStops names at file place
  entry_on names at place le (in_length stops) = in_length (stops_on at 1 IsNameLength place (omega (arith, le)) stops)
  entry_on names at place le (in_name short stops) = in_name (short_on names at place le short) (in_name_on names at place le short stops)
  entry_on names at place le (in_flag short name stops) = in_flag (short_on names at place le short) (name_on names at place le short name)
      (in_flag_on names at place le short stops)
  entry_on names at place le (in_position short name flag stops) = in_position (short_on names at place le short)
      (name_on names at place le short name) (flag_on names at place le short flag) (in_position_on names at place le short stops)

  begins_on : (count : ℕ) (entries : List Entry) (at : ℕ) → BeginsWith count entries at (take n file) → BeginsWith count entries at file
  begins_on count entries at begun = record {
    right = begun.right;
    rest = begun.rest ++ drop n file;
    begins = sym (take-append-drop n file) ∙ ap (λ (l : List ℕ). l ++ drop n file) begun.begins
        ∙ append_assoc (header_bytes count ++ entries_bytes entries) begun.rest (drop n file);
    past = begun.past;
  }

  at_small : (count : ℕ) (entries : List Entry) (at : ℕ) → BeginsWith count entries at (take n file) → at ≤ 8 + 73 * length entries
  at_small count entries at begun = omega (
    arith,
    begun.past,
    length-append (header_bytes count) (entries_bytes entries),
    length-entries entries begun.right.each,
  )

  stops_front : (place : ℕ) → 739 ≤ n → FileStops (take n file) place → FileStops file place
  stops_front place le (in_header stops) = in_header (header_on place (omega (arith, le)) stops)
  stops_front place le (in_slot count entries at few begun room stops) = in_slot count entries at few (begins_on count entries at begun)
      room (entry_on (names_in entries) at place (omega (arith, le, at_small count entries at begun, few, room)) stops)
  stops_front place le (past count entries few begun all more) = past count entries few (begins_on count entries place begun) all
      (omega (arith, full, more, long))

pub front_stops : (file : List ℕ) (count place : ℕ) → count ≡ min 739 (length file) → FileStops (take count file) place
    → FileStops file place
front_stops file count place is stops =
    elim (cases_lt (length file) 739) [
      | inl lt ↦ subst (λ (l : List ℕ). FileStops l place) (take_all count file (omega (arith, is, lt))) stops
      | inr le ↦ stops_front file count (omega (arith, is, le)) place (omega (arith, is, le)) stops
    ]

pub front_spells : (entries : List Entry) (file : List ℕ) (count : ℕ) → count ≡ min 739 (length file) → Spells entries (take count file)
    → Spells entries file
front_spells entries file count is spells =
    let short = length-file entries (take count file) spells in
    subst (Spells entries) (take_all count file (omega (arith, is, short, length-take count file))) spells
