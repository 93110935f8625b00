-- Numbers of eight and four bytes: what was read is spelled so, and a spelling tells its number and what follows it.
use Rattle.std.proofs.Common.{◌≡◌, ℕ, ◌+◌, ◌-◌, ◌^◌, ◌<◌, ◌≤◌, List, ◌++◌, length, get_or, take, drop, refl, sym, ap, ◌∙◌, arith, inl, inr}
use Rattle.std.specs.Int.{Width, w32, w64, byte_len, from_be_bytes, to_be_bytes}
use Rattle.std.proofs.lemmas.Bool.{cases_lt}
use Rattle.std.proofs.lemmas.List.{take_at, drop_at, drop-drop, take-append-drop, length-take, length-drop, get_or-drop, get_or-take, get_or_past}
use Rattle.std.proofs.lemmas.Nat.{be_bytes_8, from_be_bytes-to_be_bytes_4, from_be_bytes-to_be_bytes_8}
use Rattle.byteorder.specs.Endian.{big_from}
use Rattle.byteorder.specs.Numbers.{big_from-take}
use Rattle.repl_copy.specs.Payload.{int32, int64}

abbrev pub AreBytes : List ℕ → Type 0
AreBytes bytes = (i : ℕ) → get_or bytes i 0 < 256

AreBytes-drop : (n : ℕ) (bytes : List ℕ) → AreBytes bytes → AreBytes (drop n bytes)
AreBytes-drop n bytes h i = rw get_or-drop (h (n + i))

AreBytes-take : (n : ℕ) (bytes : List ℕ) → AreBytes bytes → AreBytes (take n bytes)
AreBytes-take n bytes h i =
    elim (cases_lt i n) [
      | inl lt ↦ rw (get_or-take n bytes i 0 lt) (h i)
      | inr le ↦ rw (get_or_past (take n bytes) i 0 (omega (arith, length-take n bytes))) (omega arith)
    ]

-- ---- what was read

long_front : (bytes : List ℕ) → AreBytes bytes → 8 ≤ length bytes → int64 (big_from 0 8 bytes) ≡ take 8 bytes
long_front bytes fits enough =
    let front = take 8 bytes in
    let same : big_from 0 8 bytes ≡ from_be_bytes w64 front = sym (big_from-take 0 8 8 bytes (omega arith)) ∙ omega arith in
    be_bytes_8 front _ (omega (arith, length-take 8 bytes)) (AreBytes-take 8 bytes fits) same

-- the number of eight bytes at a place, read from what stands there
pub long_is : (n : ℕ) (bytes : List ℕ) (place : ℕ) → AreBytes bytes → place + 8 ≤ length bytes → n
    ≡ big_from 0 8 (take (length bytes - place) (drop place bytes)) → drop place bytes ≡ int64 n ++ drop (place + 8) bytes
long_is n bytes place fits enough is =
    let rest = drop place bytes in
    let value : n ≡ big_from 0 8 rest = is ∙ big_from-take 0 8 (length bytes - place) rest (omega arith) in
    let front : int64 n ≡ take 8 rest = ap int64 value ∙ long_front rest (AreBytes-drop place bytes fits)
    (omega (arith, length-drop place bytes)) in
    let past : drop 8 rest ≡ drop (place + 8) bytes = drop-drop 8 place bytes in
    sym (take-append-drop 8 rest) ∙ ap (λ (t : List ℕ). t ++ drop 8 rest) (sym front) ∙ ap (λ (t : List ℕ). int64 n ++ t) past

-- ---- what a spelling tells

wide_one : (w : Width) (limit : ℕ) → ((n : ℕ) → length (to_be_bytes w n) ≡ byte_len w)
    → ((n : ℕ) → n < limit → from_be_bytes w (to_be_bytes w n) ≡ n)
    → (a b : ℕ) (x y : List ℕ) → a < limit → b < limit → to_be_bytes w a ++ x ≡ to_be_bytes w b ++ y → (a ≡ b) × (x ≡ y)
wide_one w limit len back a b x y a_fits b_fits e =
    let front = sym (take_at (to_be_bytes w a) x (byte_len w) (len a)) ∙ ap (take (byte_len w)) e
    ∙ take_at (to_be_bytes w b) y (byte_len w) (len b) in
    let rest = sym (drop_at (to_be_bytes w a) x (byte_len w) (len a)) ∙ ap (drop (byte_len w)) e
    ∙ drop_at (to_be_bytes w b) y (byte_len w) (len b) in
    (sym (back a a_fits) ∙ ap (from_be_bytes w) front ∙ back b b_fits, rest)

pub long_one : (a b : ℕ) (x y : List ℕ) → a < 2 ^ 64 → b < 2 ^ 64 → int64 a ++ x ≡ int64 b ++ y → (a ≡ b) × (x ≡ y)
long_one a b x y a_fits b_fits e = wide_one w64 (2 ^ 64) (λ n. refl) (λ n lt. from_be_bytes-to_be_bytes_8 n lt) a b x y a_fits b_fits e

pub short_one : (a b : ℕ) (x y : List ℕ) → a < 2 ^ 32 → b < 2 ^ 32 → int32 a ++ x ≡ int32 b ++ y → (a ≡ b) × (x ≡ y)
short_one a b x y a_fits b_fits e = wide_one w32 (2 ^ 32) (λ n. refl) (λ n lt. from_be_bytes-to_be_bytes_4 n lt) a b x y a_fits b_fits e
