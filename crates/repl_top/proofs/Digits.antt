-- Digits of a number, one after another.
use Rattle.std.proofs.Common.{◌≡◌, ℕ, zero, suc, ◌+◌, ◌*◌, ◌^◌, ◌<◌, ◌≤◌, List, [], ◌∷◌, length, get_or, take, sym, ap, ◌∙◌, subst, arith}
use Rattle.std.proofs.lemmas.Int.Digits.{digits_value-lt, digits_value_more, digits_more}
use Rattle.std.proofs.lemmas.Str.Parse.{digits_value-take-le}
use Rattle.std.specs.Char.{digit_value}
use Rattle.std.specs.Str.Parse.{AllDigits, digits_value}
use Rattle.repl_top.specs.Words.{IsMagic, IsNumber}

pub digit_in : (base : ℕ) (word : List ℕ) → AllDigits base word → (i : ℕ) → i < length word → digit_value (get_or word i 0) < base
digit_in base [] d i l = absurd (omega arith)
digit_in base (c ∷ cs) d zero l = d.0
digit_in base (c ∷ cs) d (suc i) l = digit_in base cs d.1 i (omega arith)

-- what has been read of a word
pub record ReadsDigits (base : ℕ) (word : List ℕ) (i value : ℕ) : Type 0 where
  pub digits : AllDigits base (take i word)
  pub value_is : value ≡ digits_value base (take i word)

pub digits_one_more : (base : ℕ) (word : List ℕ) (i value digit : ℕ) → ReadsDigits base word i value → i < length word
    → digit ≡ digit_value (get_or word i 0) → digit < base → ReadsDigits base word (i + 1) (value * base + digit)
digits_one_more base word i value digit h inside is small = record {
  digits = digits_more base word i inside h.digits (omega arith);
  value_is = ap (λ v. v * base + digit) h.value_is ∙ ap (λ d. digits_value base (take i word) * base + d) is
      ∙ sym (digits_value_more base word i inside);
}

-- a byte that is no digit
pub not_number : (base : ℕ) (word : List ℕ) (i n : ℕ) → i < length word → (digit_value (get_or word i 0) < base → ⊥)
    → IsNumber base word n → ⊥
not_number base word i n inside none d = none (digit_in base word d.digits i inside)

-- the whole is at least as much as a front
pub front_at_most : (base : ℕ) (word : List ℕ) (i value n : ℕ) → 1 ≤ base → ReadsDigits base word i value → i < length word
    → IsNumber base word n → value * base + digit_value (get_or word i 0) ≤ n
front_at_most base word i value n some h inside d =
    let same : value * base ≡ digits_value base (take i word) * base = ap (λ v. v * base) h.value_is in
    omega (arith, same, d.value, digits_value_more base word i inside, digits_value-take-le base word (i + 1) some)

-- four hexadecimal digits have a value below 2 ^ 16
four_digits : (count : ℕ) → count ≤ 4 → 16 ^ count ≤ 65536
four_digits zero few = omega arith
four_digits (suc zero) few = omega arith
four_digits (suc (suc zero)) few = omega arith
four_digits (suc (suc (suc zero))) few = omega arith
four_digits (suc (suc (suc (suc zero)))) few = omega arith
four_digits (suc (suc (suc (suc (suc count))))) few = absurd (omega arith)

pub magic_below : (word : List ℕ) (n : ℕ) → IsMagic word n → n ≤ 65535
magic_below word n is =
    omega (arith, is.0.value, digits_value-lt 16 word is.0.digits, four_digits (length word) is.1)
