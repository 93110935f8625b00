-- The bytes of a record are made of its fields: what was read of them is spelled so.
use Rattle.std.proofs.Common.{◌≡◌, ℕ, ◌+◌, ◌≤◌, List, [], ◌∷◌, ◌++◌, length, get_or, take, drop, refl, sym, ap, ◌∙◌, arith}
use Rattle.std.specs.Int.{w32, w64, from_le_bytes}
use Rattle.std.proofs.lemmas.List.{length-take, length-drop, get_or-drop, take-append-drop}
use Rattle.std.proofs.lemmas.Nat.{le_bytes_4, le_bytes_8}
use Rattle.std.proofs.Math.Seq.{take-add}
use Rattle.byteorder.specs.Endian.{little_from, little_bytes, little_number}
use Rattle.byteorder.specs.Numbers.{little_from-take, little_from-lt}
use Rattle.repl_page.specs.Header.{field}
use Rattle.repl_record.specs.declared.record.RecordIn.{RecordIn}
use Rattle.repl_record.specs.Checksum.{checksum}
use Rattle.repl_record.specs.Record.{AreBytes, IsRecord, total_length, front_bytes, record_bytes}
use Rattle.repl_record.specs.Judging.{IsLength, length_field, computed_sum}
use Rattle.repl_record.proofs.Fields.{AreBytes-drop, AreBytes-take}

joined : {a b c d : List ℕ} → a ≡ b → c ≡ d → a ++ c ≡ b ++ d
joined {b = b} {c = c} first second = ap (λ (t : List ℕ). t ++ c) first ∙ ap (λ (t : List ℕ). b ++ t) second

-- ---- numbers

four_back : (bytes : List ℕ) → AreBytes bytes → 4 ≤ length bytes → little_bytes 4 (little_number 4 bytes) ≡ take 4 bytes
four_back bytes are enough =
    let front = take 4 bytes in
    let same : little_from 0 4 bytes ≡ from_le_bytes w32 front = sym (little_from-take 0 4 4 bytes (omega arith)) ∙ omega arith in
    le_bytes_4 front _ (omega (arith, length-take 4 bytes)) (AreBytes-take 4 bytes are) same

eight_back : (bytes : List ℕ) → AreBytes bytes → 8 ≤ length bytes → little_bytes 8 (little_number 8 bytes) ≡ take 8 bytes
eight_back bytes are enough =
    let front = take 8 bytes in
    let same : little_from 0 8 bytes ≡ from_le_bytes w64 front = sym (little_from-take 0 8 8 bytes (omega arith)) ∙ omega arith in
    le_bytes_8 front _ (omega (arith, length-take 8 bytes)) (AreBytes-take 8 bytes are) same

four_at : (place : ℕ) (bytes : List ℕ) → AreBytes bytes → place + 4 ≤ length bytes
    → little_bytes 4 (field place 4 bytes) ≡ take 4 (drop place bytes)
four_at place bytes are enough = four_back (drop place bytes) (AreBytes-drop place bytes are) (omega (arith, length-drop place bytes))

eight_at : (place : ℕ) (bytes : List ℕ) → AreBytes bytes → place + 8 ≤ length bytes
    → little_bytes 8 (field place 8 bytes) ≡ take 8 (drop place bytes)
eight_at place bytes are enough = eight_back (drop place bytes) (AreBytes-drop place bytes are) (omega (arith, length-drop place bytes))

-- ---- flags and reserved bytes

four_items : (bytes : List ℕ) → 4 ≤ length bytes → take 4 bytes ≡ get_or bytes 0 0 ∷ get_or bytes 1 0 ∷ get_or bytes 2 0 ∷ get_or bytes 3 0
    ∷ []
four_items [] enough = absurd (omega arith)
four_items (a ∷ []) enough = absurd (omega arith)
four_items (a ∷ b ∷ []) enough = absurd (omega arith)
four_items (a ∷ b ∷ c ∷ []) enough = absurd (omega arith)
four_items (a ∷ b ∷ c ∷ d ∷ bytes) enough = refl

two_zeros : (bytes : List ℕ) → little_number 2 bytes ≡ 0 → (get_or bytes 0 0 ≡ 0) × (get_or bytes 1 0 ≡ 0)
two_zeros bytes is = (omega arith, omega arith)

same_four : (a b c d e f g h : ℕ) → a ≡ e → b ≡ f → c ≡ g → d ≡ h → a ∷ b ∷ c ∷ d ∷ [] ≡ e ∷ f ∷ g ∷ h ∷ []
same_four a b c d e f g h p q r s = cc

flags_at : (bytes : List ℕ) → 20 ≤ length bytes → field 18 2 bytes ≡ 0
    → get_or bytes 16 0 ∷ get_or bytes 17 0 ∷ 0 ∷ 0 ∷ [] ≡ take 4 (drop 16 bytes)
flags_at bytes enough reserved =
    let zeros = two_zeros (drop 18 bytes) reserved in
    let third : 0 ≡ get_or (drop 16 bytes) 2 0 = sym zeros.0 ∙ get_or-drop 18 bytes 0 0 ∙ sym (get_or-drop 16 bytes 2 0) in
    let fourth : 0 ≡ get_or (drop 16 bytes) 3 0 = sym zeros.1 ∙ get_or-drop 18 bytes 1 0 ∙ sym (get_or-drop 16 bytes 3 0) in
    same_four _ _ 0 0 _ _ _ _ (sym (get_or-drop 16 bytes 0 0)) (sym (get_or-drop 16 bytes 1 0)) third fourth
    ∙ sym (four_items (drop 16 bytes) (omega (arith, length-drop 16 bytes)))

-- ---- the record

-- the record that these bytes spell
abbrev pub item_of : List ℕ → RecordIn
item_of bytes = record { xid = field 4 4 bytes; info = get_or bytes 16 0; rmid = get_or bytes 17 0; body = drop 24 bytes }

pub total_is : (bytes : List ℕ) → 24 ≤ length bytes → total_length (item_of bytes) ≡ length bytes
total_is bytes enough = omega (arith, length-drop 24 bytes)

front_is : (prev : ℕ) (bytes : List ℕ) → AreBytes bytes → 24 ≤ length bytes → length_field bytes ≡ length bytes → field 8 8 bytes ≡ prev
    → field 18 2 bytes ≡ 0
    → front_bytes prev (item_of bytes) ≡ take 20 bytes
front_is prev bytes are enough length_is prev_is reserved =
    let first : little_bytes 4 (total_length (item_of bytes)) ≡ take 4 bytes = ap (little_bytes 4) (total_is bytes enough ∙ sym length_is)
    ∙ four_at 0 bytes are (omega arith) in
    let second = joined first (four_at 4 bytes are (omega arith)) ∙ sym (take-add 4 4 bytes) in
    let third = joined second (ap (little_bytes 8) (sym prev_is) ∙ eight_at 8 bytes are (omega arith)) ∙ sym (take-add 8 8 bytes) in
    joined third (flags_at bytes (omega arith) reserved) ∙ sym (take-add 16 4 bytes)

pub record_is : (prev : ℕ) (bytes : List ℕ) → AreBytes bytes → 24 ≤ length bytes → length_field bytes ≡ length bytes
    → field 8 8 bytes ≡ prev → field 18 2 bytes ≡ 0 → field 20 4 bytes ≡ computed_sum bytes
    → bytes ≡ record_bytes prev (item_of bytes)
record_is prev bytes are enough length_is prev_is reserved sum_is =
    let front = front_is prev bytes are enough length_is prev_is reserved in
    let sum : little_bytes 4 (checksum (drop 24 bytes ++ front_bytes prev (item_of bytes))) ≡ take 4 (drop 20 bytes) =
    ap (λ (t : List ℕ). little_bytes 4 (checksum (drop 24 bytes ++ t))) front ∙ ap (little_bytes 4) (sym sum_is)
    ∙ four_at 20 bytes are (omega arith) in
    let head : front_bytes prev (item_of bytes) ++ little_bytes 4 (checksum (drop 24 bytes ++ front_bytes prev (item_of bytes))) ≡ take 24
    bytes = joined front sum ∙ sym (take-add 20 4 bytes) in
    sym (take-append-drop 24 bytes) ∙ ap (λ (t : List ℕ). t ++ drop 24 bytes) (sym head)

pub item_is_record : (bytes : List ℕ) → AreBytes bytes → IsLength (length bytes) → IsRecord (item_of bytes)
item_is_record bytes are is = record {
  xid = little_from-lt 0 4 (drop 4 bytes) (AreBytes-drop 4 bytes are);
  info = are 16;
  rmid = are 17;
  body = AreBytes-drop 24 bytes are;
  short = omega (arith, is.0, is.1, length-drop 24 bytes);
}
