-- A half of a position, digit by digit.
use Rattle.std.proofs.Common.{◌≡◌, ℕ, ◌+◌, ◌-◌, ◌*◌, ◌^◌, ◌<◌, ◌≤◌, List, length, get_or, take, drop, refl, ap, ◌∙◌, arith}
use Rattle.std.proofs.lemmas.List.{length-drop, length-take-le, get_or-drop}
use Rattle.std.proofs.lemmas.Int.Digits.{digits_value_more, digits_more, digits_value-lt}
use Rattle.std.proofs.Math.Nat.{pow-le-pow_right}
use Rattle.std.specs.Char.{digit_value}
use Rattle.std.specs.Str.Parse.{AllDigits, digits_value}
use Rattle.repl_lsn.specs.Position.{IsHalfAt, NoDigitAt}

-- the digits from start to end, eight at most, and their value
pub record DigitsAt (text : List ℕ) (start value end : ℕ) : Type 0 where
  pub above : start ≤ end
  pub few : end ≤ start + 8
  pub within : end ≤ length text
  pub digits : AllDigits 16 (take (end - start) (drop start text))
  pub value_is : value ≡ digits_value 16 (take (end - start) (drop start text))

pub digits_none : (text : List ℕ) (start : ℕ) → start ≤ length text → DigitsAt text start 0 start
digits_none text start within =
    let none : start - start ≡ 0 = omega arith in
    record {
      above = omega arith;
      few = omega arith;
      within = within;
      digits = rw none tt;
      value_is = rw none refl;
    }

pub digits_one_more : (text : List ℕ) (start value end : ℕ) → DigitsAt text start value end → end < length text → end < start + 8
    → digit_value (get_or text end 0) < 16 → DigitsAt text start (value * 16 + digit_value (get_or text end 0)) (end + 1)
digits_one_more text start value end h inside room is_digit =
    let i : end + 1 - start ≡ (end - start) + 1 = omega (arith, h.above) in
    let rest : end - start < length (drop start text) = omega (arith, h.above, length-drop start text) in
    let at : get_or (drop start text) (end - start) 0 ≡ get_or text end 0 = get_or-drop start text (end - start) 0
    ∙ ap (λ k. get_or text k 0) (omega (arith, h.above)) in
    record {
      above = omega (arith, h.above);
      few = omega arith;
      within = omega arith;
      digits = rw i (digits_more 16 (drop start text) (end - start) rest h.digits (rw at is_digit));
      value_is = rw (
        i,
        digits_value_more 16 (drop start text) (end - start) rest,
        at,
      ) (ap (λ v. v * 16 + digit_value (get_or text end 0)) h.value_is);
    }

-- eight digits fit 32 bits
pub half_fits : (half : List ℕ) → AllDigits 16 half → length half ≤ 8 → digits_value 16 half < 2 ^ 32
half_fits half digits few =
    let sixteen : 0 < 16 = omega arith in
    let most : 16 ^ length half ≤ 16 ^ 8 = pow-le-pow_right sixteen few in
    omega (arith, digits_value-lt 16 half digits, most)

-- seven leave room for one more
pub digits_room : (text : List ℕ) (start value end : ℕ) → DigitsAt text start value end → end < start + 8 → value < 2 ^ 28
digits_room text start value end h room =
    let half : List ℕ = take (end - start) (drop start text) in
    let size : length half ≡ end - start = length-take-le (end - start) (drop start text) (omega (
      arith,
      h.above,
      h.within,
      length-drop start text,
    )) in
    let sixteen : 0 < 16 = omega arith in
    let few : length half ≤ 7 = omega (arith, h.above) in
    let most : 16 ^ length half ≤ 16 ^ 7 = pow-le-pow_right sixteen few in
    omega (arith, digits_value-lt 16 half h.digits, most, h.value_is)

pub half_from_digits : (text : List ℕ) (start value end : ℕ) → DigitsAt text start value end → start < end
    → (end - start < 8 → NoDigitAt text end) → IsHalfAt text start value end
half_from_digits text start value end h some whole =
    let rest : end - start ≤ length (drop start text) = omega (arith, h.above, h.within, length-drop start text) in
    let size : length (take (end - start) (drop start text)) ≡ end - start = length-take-le (end - start) (drop start text) rest in
    record {
      above = some;
      within = h.within;
      is_half = record { some = omega arith; few = omega (arith, h.few, h.above); hexadecimal = h.digits };
      value_is = h.value_is;
      whole = whole;
    }
