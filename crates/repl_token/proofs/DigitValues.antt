-- Digits of a number.
use Rattle.std.proofs.Common.{◌≡◌, ℕ, ◌-◌, ◌<◌, ◌≤◌, true, List, length, get_or, arith}
use Rattle.std.proofs.lemmas.Bool.Decides.{nat_tests}
use Rattle.std.specs.Char.{is_ascii_digit, digit_value}

digit_is : (c : ℕ) → is_ascii_digit c ≡ true → (digit_value c ≡ c - 48) × (48 ≤ c)
digit_is c e = (grind (arith, nat_tests), grind (arith, nat_tests))

pub digit_here : (digits : List ℕ) (i : ℕ) → i < length digits → is_ascii_digit (get_or digits i 0) ≡ true
    → (digit_value (get_or digits i 0) ≡ get_or digits i 0 - 48) × (48 ≤ get_or digits i 0)
digit_here digits i l e = digit_is (get_or digits i 0) e
