-- Two walks over one file, slot by slot, come to the same end: the same slots, and the same place where it goes wrong, if it does.
use Rattle.std.proofs.Common.{◌≡◌, ℕ, ◌+◌, ◌^◌, ◌<◌, ◌≤◌, List, ◌++◌, length, take, drop, get_or, Option, Some, None, IfSome, refl, sym, ◌∙◌, ap, subst, append_assoc, inl, inr, arith}
use Rattle.std.proofs.lemmas.List.{drop-drop, drop_at, get_or-drop, length-append, length-drop, take_at}
use Rattle.std.proofs.lemmas.Nat.{from_be_bytes-to_be_bytes_8}
use Rattle.std.specs.Int.{w64, from_be_bytes}
use Rattle.repl_slots.specs.Slot.{IsNew}
use Rattle.repl_slots.specs.SlotFile.{Entry, EntryStops, HeaderStops, Holds, IsCount, IsEntry, IsFlag, IsMagic, IsNameLength, IsNewName, IsPosition, IsVersion, Stops, entry_bytes, field, in_count, in_flag, in_length, in_magic, in_name, in_position, in_version, int64, position_bytes, size_at}

-- ---- one field

stop_one : (at size : ℕ) (Right : List ℕ → Type 0) (file : List ℕ) (p q : ℕ) → Stops at size Right file p → Stops at size Right file q
    → p ≡ q
stop_one at size Right file p q (inl a) (inl b) = a.1 ∙ sym b.1
stop_one at size Right file p q (inl a) (inr b) = absurd (omega (arith, a.0, b.0))
stop_one at size Right file p q (inr a) (inl b) = absurd (omega (arith, a.0, b.0))
stop_one at size Right file p q (inr a) (inr b) = a.2 ∙ sym b.2

stop_none : (at size : ℕ) (Right : List ℕ → Type 0) (file : List ℕ) (p : ℕ) → Holds at size Right file → Stops at size Right file p → ⊥
stop_none at size Right file p holds (inl a) = omega (arith, a.0, holds.0)
stop_none at size Right file p holds (inr a) = a.1 holds.1

-- ---- the header

pub header_one : (file : List ℕ) (p q : ℕ) → HeaderStops file p → HeaderStops file q → p ≡ q
header_one file p q (in_magic a) (in_magic b) = stop_one 0 4 IsMagic file p q a b
header_one file p q (in_magic a) (in_version m b) = absurd (stop_none 0 4 IsMagic file p m a)
header_one file p q (in_magic a) (in_count m v b) = absurd (stop_none 0 4 IsMagic file p m a)
header_one file p q (in_version m a) (in_magic b) = absurd (stop_none 0 4 IsMagic file q m b)
header_one file p q (in_version m a) (in_version n b) = stop_one 4 2 IsVersion file p q a b
header_one file p q (in_version m a) (in_count n v b) = absurd (stop_none 4 2 IsVersion file p v a)
header_one file p q (in_count m v a) (in_magic b) = absurd (stop_none 0 4 IsMagic file q m b)
header_one file p q (in_count m v a) (in_version n b) = absurd (stop_none 4 2 IsVersion file q v b)
header_one file p q (in_count m v a) (in_count n w b) = stop_one 6 2 IsCount file p q a b

pub header_none : (file : List ℕ) (p : ℕ) → Holds 0 4 IsMagic file → Holds 4 2 IsVersion file → Holds 6 2 IsCount file
    → HeaderStops file p → ⊥
header_none file p m0 v0 c0 (in_magic a) = stop_none 0 4 IsMagic file p m0 a
header_none file p m0 v0 c0 (in_version m a) = stop_none 4 2 IsVersion file p v0 a
header_none file p m0 v0 c0 (in_count m v a) = stop_none 6 2 IsCount file p c0 a

-- ---- a slot

module _ (names : List (List ℕ)) (at : ℕ) (file : List ℕ) where
  abbrev NameRight : List ℕ → Type 0
  NameRight = IsNewName names

  abbrev PositionRight : List ℕ → Type 0
  PositionRight = IsPosition (get_or file (at + 1 + size_at at file) 0)

  pub entry_one : (p q : ℕ) → EntryStops names at file p → EntryStops names at file q → p ≡ q
  entry_one p q (in_length a) (in_length b) = stop_one at 1 IsNameLength file p q a b
  entry_one p q (in_length a) (in_name l b) = absurd (stop_none at 1 IsNameLength file p l a)
  entry_one p q (in_length a) (in_flag l n b) = absurd (stop_none at 1 IsNameLength file p l a)
  entry_one p q (in_length a) (in_position l n f b) = absurd (stop_none at 1 IsNameLength file p l a)
  entry_one p q (in_name k a) (in_length b) = absurd (stop_none at 1 IsNameLength file q k b)
  entry_one p q (in_name k a) (in_name l b) = stop_one (at + 1) (size_at at file) NameRight file p q a b
  entry_one p q (in_name k a) (in_flag l n b) = absurd (stop_none (at + 1) (size_at at file) NameRight file p n a)
  entry_one p q (in_name k a) (in_position l n f b) = absurd (stop_none (at + 1) (size_at at file) NameRight file p n a)
  entry_one p q (in_flag k m a) (in_length b) = absurd (stop_none at 1 IsNameLength file q k b)
  entry_one p q (in_flag k m a) (in_name l b) = absurd (stop_none (at + 1) (size_at at file) NameRight file q m b)
  entry_one p q (in_flag k m a) (in_flag l n b) = stop_one (at + 1 + size_at at file) 1 IsFlag file p q a b
  entry_one p q (in_flag k m a) (in_position l n f b) = absurd (stop_none (at + 1 + size_at at file) 1 IsFlag file p f a)
  entry_one p q (in_position k m g a) (in_length b) = absurd (stop_none at 1 IsNameLength file q k b)
  entry_one p q (in_position k m g a) (in_name l b) = absurd (stop_none (at + 1) (size_at at file) NameRight file q m b)
  entry_one p q (in_position k m g a) (in_flag l n b) = absurd (stop_none (at + 1 + size_at at file) 1 IsFlag file q g b)
  entry_one p q (in_position k m g a) (in_position l n f b) = stop_one (at + 2 + size_at at file) 8 PositionRight file p q a b

  entry_none : (p : ℕ) → Holds at 1 IsNameLength file → Holds (at + 1) (size_at at file) NameRight file
      → Holds (at + 1 + size_at at file) 1 IsFlag file → Holds (at + 2 + size_at at file) 8 PositionRight file
      → EntryStops names at file p → ⊥
  entry_none p l n f o (in_length a) = stop_none at 1 IsNameLength file p l a
  entry_none p l n f o (in_name k a) = stop_none (at + 1) (size_at at file) NameRight file p n a
  entry_none p l n f o (in_flag k m a) = stop_none (at + 1 + size_at at file) 1 IsFlag file p f a
  entry_none p l n f o (in_position k m g a) = stop_none (at + 2 + size_at at file) 8 PositionRight file p o a

-- a slot that stands there is right
module _ (names : List (List ℕ)) (at : ℕ) (file : List ℕ) (entry : Entry) (r : List ℕ) (right : IsEntry entry)
    (new : IsNew names entry.name) (stands : drop at file ≡ entry_bytes entry ++ r) where
  abbrev size : ℕ
  size = length entry.name

  abbrev rest : List ℕ
  rest = position_bytes entry.restart ++ r

  length-position : (restart : Option ℕ) → length (position_bytes restart) ≡ 9
  length-position None = refl
  length-position (Some position) = refl

  enough : at + 10 + size ≤ length file
  enough = omega (
    arith,
    ap length stands,
    length-drop at file,
    length-append (entry_bytes entry) r,
    length-append entry.name
        (position_bytes entry.restart),
    length-position entry.restart,
    right.0.some,
  )

  size_is : size_at at file ≡ size
  size_is = ap (λ (k : ℕ). get_or file k 0) (omega arith) ∙ sym (get_or-drop at file 0 0) ∙ ap (λ (l : List ℕ). get_or l 0 0) stands

  past_size : drop (at + 1) file ≡ entry.name ++ rest
  past_size = sym (drop-drop 1 at file) ∙ ap (drop 1) stands ∙ append_assoc entry.name (position_bytes entry.restart) r

  past_name : drop (at + 1 + size) file ≡ rest
  past_name = sym (drop-drop size (at + 1) file) ∙ ap (drop size) past_size ∙ drop_at entry.name rest size refl

  length_holds : Holds at 1 IsNameLength file
  length_holds = (omega (arith, enough), (size, right.0.some, right.0.short, ap (take 1) stands))

  name_holds : Holds (at + 1) size (IsNewName names) file
  name_holds =
      let is : field (at + 1) size file ≡ entry.name = ap (take size) past_size ∙ take_at entry.name rest size refl in
      (omega (arith, enough), subst (IsNewName names) (sym is) (right.0, new))

  flag_told : (restart : Option ℕ) → drop (at + 1 + size) file ≡ position_bytes restart ++ r → Holds (at + 1 + size) 1 IsFlag file
      × Holds (at + 2 + size) 8 (IsPosition (get_or file (at + 1 + size) 0)) file
  flag_told None is =
      let next : drop (at + 2 + size) file ≡ int64 0 ++ r = ap (λ (k : ℕ). drop k file) (omega arith)
      ∙ sym (drop-drop 1 (at + 1 + size) file)
      ∙ ap (drop 1) is in (
        (omega (arith, enough), inl (ap (take 1) is)),
        (omega (arith, enough), λ zero. ap (take 8) next ∙ take_at (int64 0) r 8 refl),
      )
  flag_told (Some position) is =
      let flag : get_or file (at + 1 + size) 0 ≡ 1 = ap (λ (k : ℕ). get_or file k 0) (omega arith)
      ∙ sym (get_or-drop (at + 1 + size) file 0 0)
      ∙ ap (λ (l : List ℕ). get_or l 0 0) is in (
        (omega (arith, enough), inr (ap (take 1) is)),
        (omega (arith, enough), λ zero. absurd (omega (arith, flag, zero))),
      )

  pub stands_right : (p : ℕ) → EntryStops names at file p → ⊥
  stands_right p =
      let told = flag_told entry.restart past_name in
      entry_none names at file p length_holds
      (subst (λ (k : ℕ). Holds (at + 1) k (IsNewName names) file) (sym size_is) name_holds)
      (subst (λ (k : ℕ). Holds (at + 1 + k) 1 IsFlag file) (sym size_is) told.0)
      (subst (λ (k : ℕ). Holds (at + 2 + k) 8 (IsPosition (get_or file (at + 1 + k) 0)) file) (sym size_is) told.1)

-- ---- one slot at a place

long_one : (a b : ℕ) (x y : List ℕ) → a < 2 ^ 64 → b < 2 ^ 64 → int64 a ++ x ≡ int64 b ++ y → (a ≡ b) × (x ≡ y)
long_one a b x y a_fits b_fits e =
    let front = sym (take_at (int64 a) x 8 refl) ∙ ap (take 8) e ∙ take_at (int64 b) y 8 refl in
    let rest = sym (drop_at (int64 a) x 8 refl) ∙ ap (drop 8) e ∙ drop_at (int64 b) y 8 refl in
    (sym (from_be_bytes-to_be_bytes_8 a a_fits) ∙ ap (from_be_bytes w64) front ∙ from_be_bytes-to_be_bytes_8 b b_fits, rest)

abbrev pub Fits : Option ℕ → Type 0
Fits restart = IfSome restart (λ position. position < 2 ^ 64)

position_one : (a b : Option ℕ) (x y : List ℕ) → Fits a → Fits b → position_bytes a ++ x ≡ position_bytes b ++ y → (a ≡ b) × (x ≡ y)
position_one None None x y a_fits b_fits e = (refl, (long_one 0 0 x y (omega arith) (omega arith) (ap (drop 1) e)).1)
position_one None (Some b) x y a_fits b_fits e = absurd (omega (arith, ap (λ (l : List ℕ). get_or l 0 0) e))
position_one (Some a) None x y a_fits b_fits e = absurd (omega (arith, ap (λ (l : List ℕ). get_or l 0 0) e))
position_one (Some a) (Some b) x y a_fits b_fits e =
    let same = long_one a b x y a_fits b_fits (ap (drop 1) e) in
    (ap (λ (n : ℕ). Some n) same.0, same.1)

pub entry_same : (a b : Entry) (x y : List ℕ) → Fits a.restart → Fits b.restart → entry_bytes a ++ x ≡ entry_bytes b ++ y → (a ≡ b)
    × (x ≡ y)
entry_same a b x y a_fits b_fits e =
    let size : length a.name ≡ length b.name = ap (λ (l : List ℕ). get_or l 0 0) e in
    let body = sym (append_assoc a.name (position_bytes a.restart) x) ∙ ap (drop 1) e ∙ append_assoc b.name (position_bytes b.restart) y in
    let name = sym (take_at a.name (position_bytes a.restart ++ x) (length a.name) refl) ∙ ap (take (length a.name)) body
    ∙ take_at b.name (position_bytes b.restart ++ y) (length a.name) (sym size) in
    let past_it = sym (drop_at a.name (position_bytes a.restart ++ x) (length a.name) refl) ∙ ap (drop (length a.name)) body
    ∙ drop_at b.name (position_bytes b.restart ++ y) (length a.name) (sym size) in
    let position = position_one a.restart b.restart x y a_fits b_fits past_it in (
      ap (λ (n : List ℕ). record { name = n; restart = a.restart }) name
          ∙ ap (λ (p : Option ℕ). record { name = b.name; restart = p }) position.0,
      position.1,
    )
