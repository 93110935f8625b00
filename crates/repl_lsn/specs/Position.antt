-- Positions of the write-ahead log as text (PostgreSQL 17 manual, section "pg_lsn Type"): two numbers of
-- up to eight hexadecimal digits, with a slash between them.
use Rattle.std.specs.Prelude.{◌≡◌, ℕ, ◌+◌, ◌-◌, ◌*◌, ◌/◌, ◌%◌, ◌^◌, ◌<◌, ◌≤◌, List, ◌∷◌, ◌++◌, length, take, drop, get_or, true}
use Rattle.std.specs.Char.{digit_value}
use Rattle.std.specs.Fmt.{digits}
use Rattle.std.specs.List.{All}
use Rattle.std.specs.Str.Parse.{AllDigits, digits_value}

-- one half of a position: one to eight hexadecimal digits, of either case
pub record IsHalf (half : List ℕ) : Type 0 where
  pub some : 0 < length half
  pub few : length half ≤ 8
  pub hexadecimal : AllDigits 16 half

-- the text spells the position
pub record Spells (text : List ℕ) (position : ℕ) : Type 0 where
  pub high : List ℕ
  pub low : List ℕ
  pub high_is : IsHalf high
  pub low_is : IsHalf low
  pub parts : text ≡ high ++ 47 ∷ low
  pub value : position ≡ digits_value 16 high * 2 ^ 32 + digits_value 16 low

-- the text spells some position
abbrev pub IsPosition : List ℕ → Type 0
IsPosition text = (position : ℕ) × Spells text position

-- digits in upper case, without a leading zero unless it is the only digit
pub record IsPlain (half : List ℕ) : Type 0 where
  pub is_half : IsHalf half
  pub upper : All (λ c. c < 97) half
  pub leading : (get_or half 0 0 ≡ 48) → length half ≡ 1

-- the text spells the position without leading zeros and in upper case
pub record IsCanonical (text : List ℕ) (position : ℕ) : Type 0 where
  pub high : List ℕ
  pub low : List ℕ
  pub high_is : IsPlain high
  pub low_is : IsPlain low
  pub parts : text ≡ high ++ 47 ∷ low
  pub value : position ≡ digits_value 16 high * 2 ^ 32 + digits_value 16 low

-- the canonical text, as it is printed
abbrev pub position_text : ℕ → List ℕ
position_text position = digits 16 true (position / 2 ^ 32) ++ 47 ∷ digits 16 true (position % 2 ^ 32)

-- no digit stands at this place of the text
abbrev pub NoDigitAt : List ℕ → ℕ → Type 0
NoDigitAt text place = place < length text → 16 ≤ digit_value (get_or text place 0)

-- a half stands from start to end, and goes no further: it has eight digits, or no digit follows it
pub record IsHalfAt (text : List ℕ) (start value end : ℕ) : Type 0 where
  pub above : start < end
  pub within : end ≤ length text
  pub is_half : IsHalf (take (end - start) (drop start text))
  pub value_is : value ≡ digits_value 16 (take (end - start) (drop start text))
  pub whole : end - start < 8 → NoDigitAt text end
