-- Numbers of eight digits in upper case.
use Rattle.std.proofs.Common.{◌≡◌, ℕ, zero, suc, ◌+◌, ◌-◌, ◌*◌, ◌^◌, ◌<◌, true, false, List, [], ◌∷◌, ◌++◌, length, replicate, refl, sym, ap, ◌∙◌, arith, length-append}
use Rattle.std.proofs.lemmas.List.{append-nil, length-replicate}
use Rattle.std.proofs.lemmas.List.Elements.{All-from_recursion, recursion_from_All, All-append, All-replicate}
use Rattle.std.specs.Char.{digit_value}
use Rattle.std.specs.Fmt.{digits, padded_integral, format_spec, char_count}
use Rattle.std.specs.List.{All, AllByRecursion}
use Rattle.std.specs.Str.Parse.{AllDigits, digits_value, digits_value_after}
use Rattle.repl_lsn.specs.Segment.{eight, IsDigit, AreDigits}
use Rattle.repl_lsn.proofs.Halves.{half_fits}
use Rattle.repl_lsn.proofs.Hex.{glyph, glyph_value, plain_digits, value_digits}

-- what `{:08X}` writes
pub padded_is_eight : (n : ℕ) → padded_integral (format_spec 32 0 4 8 (2 ^ 64 - 1)) false [] (digits 16 true n) ≡ eight n
unfolding padded_integral char_count
padded_is_eight n =
    let ds : List ℕ = digits 16 true n in
    let short : 8 - length ds - 0 - 0 ≡ 8 - length ds = omega arith in
    ap (λ k. replicate k 48 ++ (ds ++ [])) short ∙ ap (λ x. replicate (8 - length ds) 48 ++ x) (append-nil ds)

-- digits in upper case are digits, and digits below 'a' are in upper case
plain_by_recursion : (ds : List ℕ) → AllByRecursion IsDigit ds → AllDigits 16 ds
plain_by_recursion [] d = tt
plain_by_recursion (c ∷ cs) d = (d.0.0, plain_by_recursion cs d.1)

upper_by_recursion : (ds : List ℕ) → AllDigits 16 ds → AllByRecursion (λ c. c < 97) ds → AllByRecursion IsDigit ds
upper_by_recursion [] d u = tt
upper_by_recursion (c ∷ cs) d u = ((d.0, u.0), upper_by_recursion cs d.1 u.1)

pub plain_from_digits : (ds : List ℕ) → AreDigits ds → AllDigits 16 ds
plain_from_digits ds d = plain_by_recursion ds (recursion_from_All IsDigit ds d)

pub digits_from_upper : (ds : List ℕ) → AllDigits 16 ds → All (λ c. c < 97) ds → AreDigits ds
digits_from_upper ds d u = All-from_recursion IsDigit ds (upper_by_recursion ds d (recursion_from_All (λ c. c < 97) ds u))

-- as many digits that write the same number are the same
same_after : (n m : ℕ) (a b : List ℕ) → length a ≡ length b → AllByRecursion IsDigit a → AllByRecursion IsDigit b
    → digits_value_after 16 n a ≡ digits_value_after 16 m b → (n ≡ m) × (a ≡ b)
same_after n m [] [] l p q e = (e, refl)
same_after n m [] (y ∷ b) l p q e = absurd (omega arith)
same_after n m (x ∷ a) [] l p q e = absurd (omega arith)
same_after n m (x ∷ a) (y ∷ b) l p q e =
    let r = same_after (n * 16 + digit_value x) (m * 16 + digit_value y) a b (omega arith) p.1 q.1 e in
    let last : digit_value x ≡ digit_value y = omega (arith, r.0, p.0.0, q.0.0) in
    let first : x ≡ y = sym (glyph_value x p.0.0 p.0.1) ∙ ap glyph last ∙ glyph_value y q.0.0 q.0.1 in
    (omega (arith, r.0, p.0.0, q.0.0), ap (λ z. z ∷ a) first ∙ ap (λ z. y ∷ z) r.1)

pub same_digits : (a b : List ℕ) → length a ≡ length b → AreDigits a → AreDigits b → digits_value 16 a ≡ digits_value 16 b → a ≡ b
same_digits a b l p q e = (same_after 0 0 a b l (recursion_from_All IsDigit a p) (recursion_from_All IsDigit b q) e).1

-- leading zeros change no value
zeros_value : (k : ℕ) (ds : List ℕ) → digits_value 16 (replicate k 48 ++ ds) ≡ digits_value 16 ds
zeros_value zero ds = refl
zeros_value (suc k) ds = zeros_value k ds

-- a number's eight digits
pub length_eight : (n : ℕ) → n < 2 ^ 32 → length (eight n) ≡ 8
length_eight n small =
    let few = (plain_digits n small).is_half.few in
    omega (
      arith,
      length-append (replicate (8 - length (digits 16 true n)) 48) (digits 16 true n),
      length-replicate {A = ℕ} (8 - length (digits 16 true n)) 48,
    )

pub eight_digits : (n : ℕ) → n < 2 ^ 32 → AreDigits (eight n)
eight_digits n small =
    let plain = plain_digits n small in
    All-append IsDigit (replicate (8 - length (digits 16 true n)) 48) (digits 16 true n)
    (All-replicate IsDigit (8 - length (digits 16 true n)) 48 (omega arith, omega arith))
    (digits_from_upper (digits 16 true n) plain.is_half.hexadecimal plain.upper)

pub eight_value : (n : ℕ) → n < 2 ^ 32 → digits_value 16 (eight n) ≡ n
eight_value n small = zeros_value (8 - length (digits 16 true n)) (digits 16 true n) ∙ value_digits n small

-- eight digits are those of the number that they write
pub eight_fits : (ds : List ℕ) → length ds ≡ 8 → AreDigits ds → digits_value 16 ds < 2 ^ 32
eight_fits ds l d = half_fits ds (plain_from_digits ds d) (omega arith)

pub eight_of_value : (ds : List ℕ) → length ds ≡ 8 → AreDigits ds → ds ≡ eight (digits_value 16 ds)
eight_of_value ds l d =
    let small = eight_fits ds l d in
    same_digits ds (eight (digits_value 16 ds)) (l ∙ sym (length_eight (digits_value 16 ds) small)) d (eight_digits (digits_value 16 ds)
    small) (sym (eight_value (digits_value 16 ds) small))
