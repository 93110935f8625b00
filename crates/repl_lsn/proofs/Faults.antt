-- Where a text leaves the positions: each place that `Lsn::parse` names is the place where the text stops.
use Rattle.std.proofs.Common.{◌≡◌, ℕ, zero, suc, ◌+◌, ◌-◌, ◌*◌, ◌^◌, ◌<◌, ◌≤◌, List, [], ◌∷◌, ◌++◌, length, get_or, take, drop, refl, sym, ap, subst, ◌∙◌, arith, ◌⊎◌, inl, inr, ⊎_elim, length-append}
use Rattle.std.proofs.lemmas.Bool.{cases_lt}
use Rattle.std.proofs.lemmas.List.{append-nil, append_assoc, length-drop, take_all, take_more, get_or-take, get_or-drop, get_or_past, get_or_at, get_or_append_left, get_or-append_right, length-take-le}
use Rattle.std.proofs.Math.Seq.{take-add}
use Rattle.std.specs.Char.{digit_value}
use Rattle.std.specs.Str.Parse.{AllDigits, digits_value}
use Rattle.repl_text.specs.Language.{StopsAt}
use Rattle.repl_text.proofs.Stops.{stops_from}
use Rattle.repl_lsn.specs.Position.{IsHalf, Spells, IsPosition, IsHalfAt, NoDigitAt}
use Rattle.repl_lsn.proofs.Splits.{not_slash, not_end}

-- place by place

digit_in : (half : List ℕ) → AllDigits 16 half → (i : ℕ) → i < length half → digit_value (get_or half i 0) < 16
digit_in [] d i l = absurd (omega arith)
digit_in (c ∷ cs) d zero l = d.0
digit_in (c ∷ cs) d (suc i) l = digit_in cs d.1 i (omega arith)

-- a position place by place: digits, the slash, digits
pub record HasSlashAt (text : List ℕ) (slash : ℕ) : Type 0 where
  pub some_high : 0 < slash
  pub few_high : slash ≤ 8
  pub some_low : slash + 1 < length text
  pub few_low : length text ≤ slash + 9
  pub slash_is : get_or text slash 0 ≡ 47
  pub high_digit : (i : ℕ) → i < slash → digit_value (get_or text i 0) < 16
  pub low_digit : (i : ℕ) → slash < i → i < length text → digit_value (get_or text i 0) < 16

pub slash_in : (text : List ℕ) (position : ℕ) (s : Spells text position) → HasSlashAt text (length s.high)
slash_in text position s =
    let size : length text ≡ length s.high + suc (length s.low) = ap length s.parts ∙ length-append s.high (47 ∷ s.low) in
    record {
      some_high = s.high_is.some;
      few_high = s.high_is.few;
      some_low = omega (arith, s.low_is.some);
      few_low = omega (arith, s.low_is.few);
      slash_is = ap (λ x. get_or x (length s.high) 0) s.parts ∙ get_or_at s.high 47 s.low 0 (length s.high) refl;
      high_digit = λ i l. subst (λ c. digit_value c < 16) (sym (ap (λ x. get_or x i 0) s.parts
          ∙ get_or_append_left s.high (47 ∷ s.low) 0 i l)) (digit_in s.high s.high_is.hexadecimal i l);
      low_digit = λ i l m.
          let k : i - length s.high ≡ suc (i - length s.high - 1) = omega arith in
          let at : get_or text i 0 ≡ get_or s.low (i - length s.high - 1) 0 = ap (λ x. get_or x i 0) s.parts
          ∙ get_or-append_right s.high (47 ∷ s.low) (length s.high) i 0 refl (omega arith) ∙ ap (λ j. get_or (47 ∷ s.low) j 0) k in
          subst (λ c. digit_value c < 16) (sym at) (digit_in s.low s.low_is.hexadecimal (i - length s.high - 1) (omega arith));
    }

pub digit_at : (text : List ℕ) (start value end : ℕ) → IsHalfAt text start value end → (i : ℕ) → start ≤ i → i < end
    → digit_value (get_or text i 0) < 16
digit_at text start value end h i l m =
    let back : start + (i - start) ≡ i = omega arith in
    let at : get_or (take (end - start) (drop start text)) (i - start) 0 ≡ get_or text i 0 =
    get_or-take (end - start) (drop start text) (i - start) 0 (omega arith) ∙ get_or-drop start text (i - start) 0
    ∙ ap (λ j. get_or text j 0) back in
    subst (λ c. digit_value c < 16) at (digit_in (take (end - start) (drop start text)) h.is_half.hexadecimal (i - start) (omega (
      arith,
      length-take-le (end - start) (drop start text),
      length-drop start text,
      h.within,
    )))

pub no_digit : (text : List ℕ) (place : ℕ) → NoDigitAt text place → digit_value (get_or text place 0) < 16 → ⊥
no_digit text place none digit = ⊎_elim
    (λ l. omega (arith, none l))
    (λ l. not_end (get_or text place 0) digit (get_or_past text place 0 l))
    (cases_lt place (length text))

-- what goes on to a position

zero_half : IsHalf (48 ∷ [])
zero_half = record { some = omega arith; few = omega arith; hexadecimal = (omega arith, tt) }

pub joined : (high low : List ℕ) → IsHalf high → IsHalf low → IsPosition (high ++ 47 ∷ low)
joined high low high_is low_is = (
  digits_value 16 high * 2 ^ 32 + digits_value 16 low,
  record { high = high; low = low; high_is = high_is; low_is = low_is; parts = refl; value = refl },
)

-- the first half of a text, which has no start to drop
pub first_half : (text : List ℕ) (value slash : ℕ) → IsHalfAt text 0 value slash → IsHalf (take slash text)
    × (value ≡ digits_value 16 (take slash text))
first_half text value slash h =
    let whole : slash - 0 ≡ slash = omega arith in
    (subst (λ n. IsHalf (take n text)) whole h.is_half, h.value_is ∙ ap (λ n. digits_value 16 (take n text)) whole)

-- the text up to the end of its second half
pub two_halves : (text : List ℕ) (slash end : ℕ) → slash < length text → get_or text slash 0 ≡ 47 → slash < end
    → take end text ≡ take slash text ++ 47 ∷ take (end - (slash + 1)) (drop (slash + 1) text)
two_halves text slash end inside is below =
    let k : (slash + 1) + (end - (slash + 1)) ≡ end = omega arith in
    ap (λ n. take n text) (sym k) ∙ take-add (slash + 1) (end - (slash + 1)) text
    ∙ ap (λ x. x ++ take (end - (slash + 1)) (drop (slash + 1) text)) (take_more text slash 0 inside
    ∙ ap (λ c. take slash text ++ c ∷ []) is)
    ∙ append_assoc (take slash text) (47 ∷ []) (take (end - (slash + 1)) (drop (slash + 1) text))

pub read_position : (text : List ℕ) (high slash low end : ℕ) → IsHalfAt text 0 high slash → slash < length text → get_or text slash 0 ≡ 47
    → IsHalfAt text (slash + 1) low end → length text ≤ end → Spells text (high * 2 ^ 32 + low)
read_position text high slash low end h inside is l all =
    let first = first_half text high slash h in
    record {
      high = take slash text;
      low = take (end - (slash + 1)) (drop (slash + 1) text);
      high_is = first.0;
      low_is = l.is_half;
      parts = sym (take_all end text all) ∙ two_halves text slash end inside is (omega (arith, l.above));
      value = ap (λ v. v * 2 ^ 32 + low) first.1 ∙ ap (λ v. digits_value 16 (take slash text) * 2 ^ 32 + v) l.value_is;
    }

-- the four faults

-- no digit stands first
pub stops_at_high : (text : List ℕ) → NoDigitAt text 0 → StopsAt IsPosition text 0
stops_at_high text none = stops_from IsPosition 0 text 0 (omega arith) (48 ∷ 47 ∷ 48 ∷ [], joined (48 ∷ []) (48 ∷ []) zero_half zero_half)
    (λ other f p.
    let s = slash_in other p.0 p.1 in
    no_digit text 0 none (subst (λ c. digit_value c < 16) (f.same 0 (omega arith)) (s.high_digit 0 s.some_high)))

-- a position's slash stands where the digits end, or one more digit does
pub same_slash : (text : List ℕ) (value slash : ℕ) → IsHalfAt text 0 value slash → (other : List ℕ) (at : ℕ) → HasSlashAt other at
    → ((i : ℕ) → i ≤ slash → get_or other i 0 ≡ get_or text i 0)
    → (at ≡ slash) ⊎ ((slash < 8) × (digit_value (get_or text slash 0) < 16))
same_slash text value slash h other at s same = ⊎_elim
    (λ l. absurd (not_slash (get_or text at 0) (digit_at text 0 value slash h at (omega arith) l) (sym (same at (omega arith))
    ∙ s.slash_is)))
    (λ l. ⊎_elim
    (λ m. inr (omega (arith, s.few_high), subst (λ c. digit_value c < 16) (same slash (omega arith)) (s.high_digit slash m)))
    (λ m. inl (omega arith))
    (cases_lt slash at))
    (cases_lt at slash)

-- the digits of the first half end, and no slash follows
pub stops_at_slash : (text : List ℕ) (value slash : ℕ) → IsHalfAt text 0 value slash → (get_or text slash 0 ≡ 47 → ⊥)
    → StopsAt IsPosition text slash
stops_at_slash text value slash h none = stops_from IsPosition 0 text slash h.within (
  47 ∷ 48 ∷ [],
  joined (take slash text) (48 ∷ []) (first_half text value slash h).0 zero_half,
)
    (λ other f p.
    let s = slash_in other p.0 p.1 in
    ⊎_elim
    (λ e. none (sym (f.same slash (omega arith)) ∙ ap (λ i. get_or other i 0) (sym e) ∙ s.slash_is))
    (λ d. no_digit text slash (h.whole (omega (arith, d.0))) d.1)
    (same_slash text value slash h other (length (p.1).high) s f.same))

-- no digit follows the slash
pub stops_at_low : (text : List ℕ) (value slash : ℕ) → IsHalfAt text 0 value slash → slash < length text → get_or text slash 0 ≡ 47
    → NoDigitAt text (slash + 1) → StopsAt IsPosition text (slash + 1)
stops_at_low text value slash h inside is none = stops_from IsPosition 0 text (slash + 1) (omega arith) (
  48 ∷ [],
  subst IsPosition (sym (ap (λ x. x ++ 48 ∷ []) front ∙ append_assoc (take slash text) (47 ∷ []) (48 ∷ [])))
      (joined (take slash text) (48 ∷ []) (first_half text value slash h).0 zero_half),
)
    (λ other f p.
    let s = slash_in other p.0 p.1 in
    ⊎_elim
    (λ e. no_digit text (slash + 1) none (subst (λ c. digit_value c < 16) (f.same (slash + 1) (omega arith))
    (s.low_digit (slash + 1) (omega arith) (omega (arith, s.some_low)))))
    (λ d. not_slash (get_or text slash 0) d.1 is)
    (same_slash text value slash h other (length (p.1).high) s (λ i l. f.same i (omega arith))))
  where
    front : take (slash + 1) text ≡ take slash text ++ 47 ∷ []
    front = take_more text slash 0 inside ∙ ap (λ c. take slash text ++ c ∷ []) is

-- the digits of the second half end, and the text goes on
pub stops_after : (text : List ℕ) (high slash low end : ℕ) → IsHalfAt text 0 high slash → slash < length text → get_or text slash 0 ≡ 47
    → IsHalfAt text (slash + 1) low end → end < length text → StopsAt IsPosition text end
stops_after text high slash low end h inside is l more = stops_from IsPosition 0 text end (omega arith) (
  [],
  subst IsPosition (sym (append-nil (take end text) ∙ two_halves text slash end inside is (omega (arith, l.above))))
      (joined (take slash text) (take (end - (slash + 1)) (drop (slash + 1) text)) (first_half text high slash h).0 l.is_half),
)
    (λ other f p.
    let s = slash_in other p.0 p.1 in
    let long = f.long more in
    ⊎_elim
    (λ e. no_digit text end (l.whole (omega (arith, s.few_low, l.above))) (subst (λ c. digit_value c < 16) (f.same end (omega arith))
    (s.low_digit end (omega (arith, l.above)) long)))
    (λ d. not_slash (get_or text slash 0) d.1 is)
    (same_slash text high slash h other (length (p.1).high) s (λ i m. f.same i (omega (arith, l.above)))))
