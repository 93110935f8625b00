-- The control of a new store is right.
use Rattle.std.proofs.Common.{◌≡◌, ℕ, ◌+◌, ◌-◌, ◌*◌, ◌/◌, ◌%◌, ◌^◌, ◌<◌, ◌≤◌, refl, sym, ap, ◌∙◌, subst, arith, ⊎_elim}
use Rattle.std.proofs.Math.Nat.{mod_self}
use Rattle.std.proofs.lemmas.Bool.{cases_lt}
use Rattle.std.proofs.lemmas.Nat.{pow-add, pow_below, div-mul-add}
use Rattle.repl_lsn.specs.Segment.{IsSegSize}
use Rattle.repl_control.specs.declared.control.Role.{Role}
use Rattle.repl_control.specs.Control.{IsControl, fresh_control, segment_start}

-- a size is a multiple of 8
exponent_least : (size : ℕ) (h : IsSegSize size) → 20 ≤ h.exponent
exponent_least size h = ⊎_elim (λ l. absurd (omega (arith, pow_below h.exponent 20 l, h.power, h.least))) (λ l. l) (cases_lt h.exponent 20)

eights : (size : ℕ) → IsSegSize size → size % 8 ≡ 0
eights size h =
    let least = exponent_least size h in
    let sum : (h.exponent - 3) + 3 ≡ h.exponent = omega arith in
    let product : size ≡ 2 ^ (h.exponent - 3) * 8 = h.power ∙ ap (λ e. 2 ^ e) (sym sum) ∙ pow-add 2 (h.exponent - 3) 3 in
    omega (arith, product)

-- the first segment of the log starts where it starts
first_start : (size : ℕ) → 0 < size → segment_start size size ≡ size
first_start size above =
    let whole : (1 * size + 0) / size ≡ 1 = div-mul-add 1 size 0 above in
    let same : 1 * size + 0 ≡ size = omega arith in
    let one : size / size ≡ 1 = ap (λ n. n / size) (sym same) ∙ whole in
    ap (λ n. n * size) one ∙ omega arith

at_size : (role : Role) (system magic size : ℕ) → IsSegSize size → IsControl size (fresh_control role system magic size)
at_size role system magic size h =
    let above : 0 < size = omega (arith, h.least) in
    let start = first_start size above in
    record {
      flushed = (omega arith, omega (arith, h.most));
      whole = (eights size h, omega arith, omega arith);
      floor = (mod_self size, omega arith, omega (arith, start));
      prev = above;
      primary = λ is. refl;
    }

-- the same, where the positions are equal to the size
pub fresh_right : (role : Role) (system magic size start : ℕ) → IsSegSize size → start ≡ size
    → IsControl size (record (fresh_control role system magic size) { flushed = start; whole = start; floor = start })
fresh_right role system magic size start h e =
    let P : ℕ → Type 0 = λ n. IsControl size (record (fresh_control role system magic size) { flushed = n; whole = n; floor = n }) in
    subst P (sym e) (at_size role system magic size h)
