-- The fields of a slot in the file, one after another.
use Rattle.std.proofs.Common.{◌≡◌, ℕ, ◌+◌, ◌<◌, ◌≤◌, List, [], ◌∷◌, ◌++◌, length, get_or, take, drop, Option, sym, ◌∙◌, ap, append_assoc, arith, inl, inr}
use Rattle.std.proofs.lemmas.Bool.{cases_lt}
use Rattle.std.proofs.lemmas.List.{drop-drop, take-append-drop, length-take, length-drop, get_or-drop, get_or-take, get_or_past}
use Rattle.std.proofs.lemmas.Nat.{be_bytes_8}
use Rattle.std.specs.Int.{w64, from_be_bytes}
use Rattle.byteorder.specs.Endian.{big_from}
use Rattle.repl_slots.specs.SlotFile.{entry_bytes, field, int64, position_bytes}

-- ---- a field, and what stands after it

pub front : (file : List ℕ) (at n : ℕ) → drop at file ≡ field at n file ++ drop (at + n) file
front file at n = sym (take-append-drop n (drop at file)) ∙ ap (λ (l : List ℕ). field at n file ++ l) (drop-drop n at file)

pub entry_front : (file : List ℕ) (at size flag : ℕ) (name : List ℕ) (restart : Option ℕ) → field at 1 file ≡ size ∷ []
    → name ≡ field (at + 1) size file → length name ≡ size → field (at + 1 + size) 1 file ≡ flag ∷ []
    → flag ∷ field (at + 2 + size) 8 file ≡ position_bytes restart
    → drop at file ≡ entry_bytes (record { name = name; restart = restart }) ++ drop (at + 10 + size) file
entry_front file at size flag name restart size_is name_is len flag_is position_is =
    let rest = drop (at + 10 + size) file in
    let past : at + 2 + size + 8 ≡ at + 10 + size = omega arith in
    let next : at + 1 + size + 1 ≡ at + 2 + size = omega arith in
    let first : drop at file ≡ size ∷ drop (at + 1) file = front file at 1 ∙ ap (λ (l : List ℕ). l ++ drop (at + 1) file) size_is in
    let second : drop (at + 1) file ≡ name ++ drop (at + 1 + size) file = front file (at + 1) size
    ∙ ap (λ (l : List ℕ). l ++ drop (at + 1 + size) file) (sym name_is) in
    let third : drop (at + 1 + size) file ≡ flag ∷ drop (at + 2 + size) file = front file (at + 1 + size) 1
    ∙ ap (λ (l : List ℕ). l ++ drop (at + 1 + size + 1) file) flag_is ∙ ap (λ (k : ℕ). flag ∷ drop k file) next in
    let fourth : drop (at + 2 + size) file ≡ field (at + 2 + size) 8 file ++ rest = front file (at + 2 + size) 8
    ∙ ap (λ (k : ℕ). field (at + 2 + size) 8 file ++ drop k file) past in
    let position : flag ∷ drop (at + 2 + size) file ≡ position_bytes restart ++ rest = ap (λ (l : List ℕ). flag ∷ l) fourth
    ∙ ap (λ (l : List ℕ). l ++ rest) position_is in
    first ∙ ap (λ (k : ℕ). k ∷ drop (at + 1) file) (sym len)
    ∙ ap (λ (l : List ℕ). length name ∷ l) (second ∙ ap (λ (l : List ℕ). name ++ l) (third ∙ position)
    ∙ sym (append_assoc name (position_bytes restart) rest))

-- ---- a number of eight bytes

abbrev pub AreBytes : List ℕ → Type 0
AreBytes bytes = (i : ℕ) → get_or bytes i 0 < 256

field_bytes : (at n : ℕ) (file : List ℕ) → AreBytes file → AreBytes (field at n file)
field_bytes at n file h i =
    elim (cases_lt i n) [
      | inl lt ↦ rw (get_or-take n (drop at file) i 0 lt, get_or-drop) (h (at + i))
      | inr le ↦ rw (get_or_past (take n (drop at file)) i 0 (omega (arith, length-take n (drop at file)))) (omega arith)
    ]

pub long_field : (file : List ℕ) (at n : ℕ) (bytes : List ℕ) → AreBytes file → at + 8 ≤ length file → bytes ≡ field at 8 file
    → n ≡ big_from 0 8 bytes → field at 8 file ≡ int64 n
long_field file at n bytes fits enough is read =
    let value : n ≡ from_be_bytes w64 (field at 8 file) = read ∙ ap (big_from 0 8) is ∙ omega arith in
    sym (be_bytes_8 (field at 8 file) n (omega (arith, length-take 8 (drop at file), length-drop at file)) (field_bytes at 8 file fits)
    value)
