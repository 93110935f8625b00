-- What is wrong with a name, and that a text with it is no name.
use Rattle.std.proofs.Common.{◌≡◌, ℕ, ◌+◌, ◌-◌, ◌*◌, ◌/◌, ◌<◌, ◌≤◌, List, ◌++◌, length, take, drop, refl, sym, ap, ◌∙◌, arith, inl, inr, ⊎_elim}
use Rattle.std.proofs.lemmas.List.Elements.{All-nil, All-append, All-same, All-take, All-drop}
use Rattle.std.proofs.lemmas.Nat.{div-add-mod'}
use Rattle.std.proofs.Math.Seq.{take-add}
use Rattle.repl_lsn.specs.Segment.{IsSegSize, in_four_gib, Names, IsDigit, AreDigits, LacksDigit, IsNameFault, IsNumberAt, LacksDigitFrom}
use Rattle.repl_lsn.proofs.Names.{Numbers, numbers_of, low_below}

-- digits up to a place, in two parts
digits_joined : (text : List ℕ) (start place : ℕ) → start ≤ place → AreDigits (take start text)
    → AreDigits (take (place - start) (drop start text)) → AreDigits (take place text)
digits_joined text start place above front back =
    let sum : start + (place - start) ≡ place = omega arith in
    All-same IsDigit (take place text) (take start text ++ take (place - start) (drop start text)) (ap (λ n. take n text) (sym sum)
    ∙ take-add start (place - start) text)
    (All-append IsDigit (take start text) (take (place - start) (drop start text)) front back)

two_numbers : (text : List ℕ) (timeline high : ℕ) → IsNumberAt text 0 timeline → IsNumberAt text 8 high → AreDigits (take 16 text)
two_numbers text timeline high t h = digits_joined text 8 16 (omega arith) t.digits h.digits

three_numbers : (text : List ℕ) (timeline high low : ℕ) → IsNumberAt text 0 timeline → IsNumberAt text 8 high → IsNumberAt text 16 low
    → AreDigits (take 24 text)
three_numbers text timeline high low t h l = digits_joined text 16 24 (omega arith) (two_numbers text timeline high t h) l.digits

-- a digit that is missing

lacks : (text : List ℕ) (start place : ℕ) → start ≤ 16 → AreDigits (take start text) → LacksDigitFrom text start place
    → LacksDigit text place
lacks text start place within front h = record {
  inside = omega (arith, h.few);
  before = digits_joined text start place h.above front h.before;
  enough = h.within;
  none = h.none;
}

pub fault_in_timeline : (size : ℕ) (text : List ℕ) (place : ℕ) → LacksDigitFrom text 0 place → IsNameFault size text place
fault_in_timeline size text place h = inl (lacks text 0 place (omega arith) (All-nil IsDigit) h, λ l. absurd (omega (arith, h.few)))

pub fault_in_high : (size : ℕ) (text : List ℕ) (timeline place : ℕ) → IsNumberAt text 0 timeline → 0 < timeline
    → LacksDigitFrom text 8 place → IsNameFault size text place
fault_in_high size text timeline place t some h = inl (lacks text 8 place (omega arith) t.digits h, λ l. omega (arith, t.value))

pub fault_in_low : (size : ℕ) (text : List ℕ) (timeline high place : ℕ) → IsNumberAt text 0 timeline → 0 < timeline → IsNumberAt text 8 high
    → LacksDigitFrom text 16 place → IsNameFault size text place
fault_in_low size text timeline high place t some i h = inl (
  lacks text 16 place (omega arith) (two_numbers text timeline high t i) h,
  λ l. omega (arith, t.value),
)

-- the other faults

pub fault_at_zero : (size : ℕ) (text : List ℕ) (timeline : ℕ) → IsNumberAt text 0 timeline → (0 < timeline → ⊥) → IsNameFault size text 0
fault_at_zero size text timeline t none = inr (inl (refl, t.within, t.digits, omega (arith, t.value, none)))

pub fault_of_low : (size : ℕ) (text : List ℕ) (timeline high low : ℕ) → IsNumberAt text 0 timeline → 0 < timeline → IsNumberAt text 8 high
    → IsNumberAt text 16 low → in_four_gib size ≤ low → IsNameFault size text 16
fault_of_low size text timeline high low t some i l large = inr (inr (inl (
  refl,
  l.within,
  three_numbers text timeline high low t i l,
  omega (arith, t.value),
  omega (arith, l.value),
)))

pub fault_past : (size : ℕ) (text : List ℕ) (timeline high low : ℕ) → IsNumberAt text 0 timeline → 0 < timeline → IsNumberAt text 8 high
    → IsNumberAt text 16 low → low < in_four_gib size → 24 < length text → IsNameFault size text 24
fault_past size text timeline high low t some i l below more =
    inr (inr (inr (refl, more, three_numbers text timeline high low t i l, omega (arith, t.value), omega (arith, l.value))))

-- a name lacks no digit
pub no_lack : (size : ℕ) (text : List ℕ) (tli seg start place : ℕ) → Numbers size text tli seg → start ≤ 16
    → LacksDigitFrom text start place → ⊥
no_lack size text tli seg start place n within h = ⊎_elim (λ lacking.
    lacking (All-take IsDigit 1 (drop place text) (All-drop IsDigit place text n.digits))) (λ e. omega (arith, n.long, h.few)) h.none

-- a name's third number is below the limit, and its timeline is not 0
pub no_large_low : (size : ℕ) (text : List ℕ) (tli seg low : ℕ) → IsSegSize size → Numbers size text tli seg → IsNumberAt text 16 low
    → in_four_gib size ≤ low → ⊥
no_large_low size text tli seg low h n l large = omega (arith, n.low, l.value, low_below size seg h)

pub no_zero : (size : ℕ) (text : List ℕ) (tli seg timeline : ℕ) → IsSegSize size → Names size text tli seg → IsNumberAt text 0 timeline
    → (0 < timeline → ⊥) → ⊥
no_zero size text tli seg timeline h named t none = none (omega (
  arith,
  (numbers_of size text tli seg h named).timeline,
  t.value,
  named.timeline.0,
))

-- the numbers that stand in a name are those that it says
pub only_these : (size : ℕ) (text : List ℕ) (tli seg timeline high low : ℕ) → Numbers size text tli seg → IsNumberAt text 0 timeline
    → IsNumberAt text 8 high → IsNumberAt text 16 low → (timeline ≡ tli) × (high * in_four_gib size + low ≡ seg)
only_these size text tli seg timeline high low n t i l = (
  t.value ∙ n.timeline,
  ap (λ x. x * in_four_gib size + low) (i.value ∙ n.high) ∙ ap (λ x. seg / in_four_gib size * in_four_gib size + x) (l.value ∙ n.low)
      ∙ div-add-mod' seg (in_four_gib size),
)
