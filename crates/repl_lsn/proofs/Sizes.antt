-- The sizes of segments: powers of two, each of which divides 2 ^ 32.
use Rattle.std.proofs.Common.{◌≡◌, ℕ, zero, suc, ◌+◌, ◌-◌, ◌*◌, ◌/◌, ◌%◌, ◌^◌, ◌<◌, ◌≤◌, true, eq-eqb, eqb-true, sym, ap, ◌∙◌, arith, ⊎_elim}
use Rattle.std.proofs.lemmas.Bool.{cases_lt}
use Rattle.std.proofs.lemmas.Nat.{pow-add, pow_below, pow_pos, ones_cat, ones_le_self, zero_from_ones, div-mul-add}
use Rattle.std.specs.Int.{IsPowerOfTwo, is_power_of_two}
use Rattle.std.specs.Int.RustNames.{count_ones}
use lib.Count.{ones_step}
use Rattle.repl_lsn.specs.Segment.{IsSegSize, in_four_gib}

-- a number with one bit set is a power of two, and the other way round
power_from_ones : (k n : ℕ) → n ≤ k → count_ones n ≡ 1 → IsPowerOfTwo n
power_from_ones zero n le one = absurd (omega (arith, ones_le_self n))
power_from_ones (suc k) n le one = ⊎_elim
    (λ odd.
    let half : n / 2 ≡ 0 = zero_from_ones (n / 2) (omega (arith, ones_step n)) in
    (0, omega arith))
    (λ even.
    let some : 0 < n = omega (arith, ones_le_self n) in
    let half = power_from_ones k (n / 2) (omega arith) (omega (arith, ones_step n)) in
    (suc half.0, omega (arith, half.1)))
    (cases_lt 0 (n % 2))

pub is_power : (n : ℕ) → count_ones n ≡ 1 → IsPowerOfTwo n
is_power n one = power_from_ones n n (omega arith) one

pub ones_of_power : (n k : ℕ) → n ≡ 2 ^ k → count_ones n ≡ 1
unfolding count_ones
ones_of_power n k e =
    let as_block : n ≡ 1 * 2 ^ k + 0 = omega arith in
    ap count_ones as_block ∙ ones_cat k 1 0 (pow_pos k)

-- the exponent of a size
pub exponent_least : (size : ℕ) (h : IsSegSize size) → 20 ≤ h.exponent
exponent_least size h = ⊎_elim (λ l. absurd (omega (arith, pow_below h.exponent 20 l, h.power, h.least))) (λ l. l) (cases_lt h.exponent 20)

pub exponent_most : (size : ℕ) (h : IsSegSize size) → h.exponent ≤ 30
exponent_most size h = ⊎_elim (λ l. absurd (omega (arith, pow_below 30 h.exponent l, h.power, h.most))) (λ l. l) (cases_lt 30 h.exponent)

-- 2 ^ 32 bytes are whole segments, of which there are 4 to 4096
pub four_gib_is : (size : ℕ) (h : IsSegSize size) → in_four_gib size ≡ 2 ^ (32 - h.exponent)
four_gib_is size h =
    let most = exponent_most size h in
    let sum : (32 - h.exponent) + h.exponent ≡ 32 = omega arith in
    let product : 2 ^ (32 - h.exponent) * size + 0 ≡ 2 ^ 32 = omega (
      arith,
      ap (λ s. 2 ^ (32 - h.exponent) * s) h.power,
      pow-add 2 (32 - h.exponent) h.exponent,
      ap (λ e. 2 ^ e) sum,
    ) in
    ap (λ n. n / size) (sym product) ∙ div-mul-add (2 ^ (32 - h.exponent)) size 0 (omega (arith, h.least))

pub four_gib_whole : (size : ℕ) → IsSegSize size → in_four_gib size * size ≡ 2 ^ 32
four_gib_whole size h =
    let most = exponent_most size h in
    let sum : (32 - h.exponent) + h.exponent ≡ 32 = omega arith in
    ap (λ n. n * size) (four_gib_is size h) ∙ ap (λ s. 2 ^ (32 - h.exponent) * s) h.power ∙ sym (pow-add 2 (32 - h.exponent) h.exponent)
    ∙ ap (λ e. 2 ^ e) sum

pub four_gib_few : (size : ℕ) → IsSegSize size → in_four_gib size ≤ 4096
four_gib_few size h =
    let some = exponent_least size h in
    let below : 2 ^ (32 - h.exponent) < 2 ^ 13 = pow_below (32 - h.exponent) 13 (omega arith) in
    ⊎_elim (λ l. omega (arith, pow_below (32 - h.exponent) 12 l, four_gib_is size h)) (λ l. let e : 32 - h.exponent ≡ 12 =
    omega arith in omega (arith, ap (λ k. 2 ^ k) e, four_gib_is size h)) (cases_lt (32 - h.exponent) 12)

pub four_gib_some : (size : ℕ) → IsSegSize size → 0 < in_four_gib size
four_gib_some size h = omega (arith, pow_pos (32 - h.exponent), four_gib_is size h)

-- what `is_power_of_two` tells of a size
pub size_from_test : (n : ℕ) → is_power_of_two n ≡ true → 2 ^ 20 ≤ n → n ≤ 2 ^ 30 → IsSegSize n
size_from_test n test least most = let power = is_power n (eqb-true (count_ones n) 1 test) in record {
  exponent = power.0;
  power = power.1;
  least = least;
  most = most;
}

pub test_of_size : (n : ℕ) → IsSegSize n → is_power_of_two n ≡ true
test_of_size n h = eq-eqb (count_ones n) 1 (ones_of_power n h.exponent h.power)
