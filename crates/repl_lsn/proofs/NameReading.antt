-- One number of a name, digit by digit.
use Rattle.std.proofs.Common.{◌≡◌, ℕ, ◌+◌, ◌-◌, ◌*◌, ◌<◌, ◌≤◌, List, length, get_or, take, drop, ap, subst, ◌∙◌, arith, inl, inr, ⊎_elim}
use Rattle.std.proofs.lemmas.Bool.{cases_lt}
use Rattle.std.proofs.lemmas.List.{length-drop, length-take-le, get_or-take, get_or-drop}
use Rattle.std.proofs.lemmas.List.Elements.{All-nil, All-more, All-get_or}
use Rattle.std.specs.Char.{digit_value}
use Rattle.std.specs.List.{All}
use Rattle.std.specs.Str.Parse.{digits_value}
use Rattle.repl_lsn.specs.Segment.{IsDigit, AreDigits, IsNumberAt, LacksDigitFrom}
use Rattle.repl_lsn.proofs.Halves.{DigitsAt, digits_none, digits_one_more}
use Rattle.repl_lsn.proofs.Numbers.{digits_from_upper}

-- the digits in upper case from start to end, eight at most, and their value
pub record UpperAt (text : List ℕ) (start value end : ℕ) : Type 0 where
  pub digits : DigitsAt text start value end
  pub upper : All (λ c. c < 97) (take (end - start) (drop start text))

pub upper_none : (text : List ℕ) (start : ℕ) → start ≤ length text → UpperAt text start 0 start
upper_none text start within = let none : start - start ≡ 0 = omega arith in record {
  digits = digits_none text start within;
  upper =
      rw none (All-nil (λ c. c < 97));
}

pub upper_one_more : (text : List ℕ) (start value end : ℕ) → UpperAt text start value end → end < length text → end < start + 8
    → IsDigit (get_or text end 0) → UpperAt text start (value * 16 + digit_value (get_or text end 0)) (end + 1)
upper_one_more text start value end h inside room digit =
    let above : start ≤ end = h.digits.above in
    let i : end + 1 - start ≡ (end - start) + 1 = omega arith in
    let rest : end - start < length (drop start text) = omega (arith, length-drop start text) in
    let at : get_or (drop start text) (end - start) 0 ≡ get_or text end 0 = get_or-drop start text (end - start) 0
    ∙ ap (λ k. get_or text k 0) (omega arith) in
    record {
      digits = digits_one_more text start value end h.digits inside room digit.0;
      upper = rw i (All-more (λ c. c < 97) (drop start text) (end - start) 0 rest h.upper (rw at digit.1));
    }

upper_are_digits : (text : List ℕ) (start value end : ℕ) → UpperAt text start value end → AreDigits (take (end - start) (drop start text))
upper_are_digits text start value end h = digits_from_upper (take (end - start) (drop start text)) h.digits.digits h.upper

pub number_from_upper : (text : List ℕ) (start value end : ℕ) → UpperAt text start value end → start + 8 ≤ end → IsNumberAt text start value
number_from_upper text start value end h all =
    let few = h.digits.few in
    let eight : end - start ≡ 8 = omega arith in
    record {
      within = omega (arith, h.digits.within);
      digits = subst (λ n. AreDigits (take n (drop start text))) eight (upper_are_digits text start value end h);
      value = subst (λ n. value ≡ digits_value 16 (take n (drop start text))) eight h.digits.value_is;
    }

pub lacks_from_upper : (text : List ℕ) (start value end : ℕ) → UpperAt text start value end → end < start + 8
    → ¬ ((end < length text) × IsDigit (get_or text end 0)) → LacksDigitFrom text start end
lacks_from_upper text start value end h room none_there = record {
  above = h.digits.above;
  few = room;
  within = h.digits.within;
  before = upper_are_digits text start value end h;
  none = ⊎_elim (λ inside. inl (λ digits. none_there (inside, there inside digits))) (λ past. inr (omega (arith, h.digits.within)))
      (cases_lt end (length text));
}
  where
    there : end < length text → AreDigits (take 1 (drop end text)) → IsDigit (get_or text end 0)
    there inside digits =
        let long : length (take 1 (drop end text)) ≡ 1 = length-take-le 1 (drop end text) (omega (arith, length-drop end text)) in
        let at : get_or (take 1 (drop end text)) 0 0 ≡ get_or text end 0 = get_or-take 1 (drop end text) 0 0 (omega arith)
        ∙ get_or-drop end text 0 0 ∙ ap (λ k. get_or text k 0) (omega arith) in
        subst IsDigit at (All-get_or IsDigit (take 1 (drop end text)) 0 0 (omega arith) digits)
