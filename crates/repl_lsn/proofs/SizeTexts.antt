-- The logarithms of sizes, and the texts of the eleven.
use Rattle.std.proofs.Common.{◌≡◌, ◌==◌, Bool, true, false, Option, Some, None, MatchOption, ℕ, ◌+◌, ◌-◌, ◌*◌, ◌%◌, ◌^◌, ◌<◌, ◌≤◌, List, [], get_or, refl, sym, ap, subst, ◌∙◌, ⊎_elim, arith}
use Rattle.std.proofs.lemmas.Bool.{cases_lt}
use Rattle.std.proofs.lemmas.Nat.{pow_below, pow-add}
use Rattle.std.proofs.lemmas.Slice.Eq.{bytes_eq-Decides}
use Rattle.std.specs.Cmp.Lexicographic.{pointwise}
use Rattle.std.specs.Option.{SomeIff}
use Rattle.repl_lsn.specs.Segment.{IsSegSize, IsSetting, IsSettingOf, settings}

-- the power of two that is not above a size, and the next above it, is its exponent
pub log2_is : (size log2 : ℕ) (h : IsSegSize size) → 2 ^ log2 ≤ size → size < 2 * 2 ^ log2 → log2 ≡ h.exponent
log2_is size log2 h below above =
    ⊎_elim
    (λ (l : log2 < h.exponent). absurd (
    ⊎_elim
    (λ (m : log2 + 1 < h.exponent). omega (arith, pow_below (log2 + 1) h.exponent m, pow-add 2 log2 1, h.power))
    (λ (m : h.exponent ≤ log2 + 1). let e : log2 + 1 ≡ h.exponent = omega arith in omega (
      arith,
      ap (λ k. 2 ^ k) e,
      pow-add 2 log2 1,
      h.power,
    ))
    (cases_lt (log2 + 1) h.exponent)
    ))
    (λ (l : h.exponent ≤ log2).
    ⊎_elim
    (λ (m : h.exponent < log2). absurd (omega (arith, pow_below h.exponent log2 m, h.power)))
    (λ (m : log2 ≤ h.exponent). omega arith)
    (cases_lt h.exponent log2))
    (cases_lt log2 h.exponent)

-- the text of a size that is found
pub found : (text : List ℕ) (log2 : ℕ) (o : Option ℕ) → SomeIff o ((20 ≤ log2) × (log2 ≤ 30)) (2 ^ log2) → 20 ≤ log2 → log2 ≤ 30
    → text ≡ get_or settings (log2 - 20) [] → MatchOption o ((size : ℕ) → ¬ IsSetting text size) (λ size. IsSetting text size)
found text log2 None h a b e = absurd (h (a, b))
found text log2 (Some size) h a b e = (log2, (a, b, e), h.1)

-- the text of none so far, nor of the one here
pub none_more : (text other : List ℕ) (log2 : ℕ) (same : Bool) → same ≡ pointwise ◌==◌ text other → other ≡ get_or settings (log2 - 20) []
    → same ≡ false → ((k : ℕ) → k < log2 → ¬ IsSettingOf text k) → (k : ℕ) → k < log2 + 1 → ¬ IsSettingOf text k
none_more text other log2 same e is f none k h s =
    ⊎_elim
    (λ (l : k < log2). none k l s)
    (λ (l : log2 ≤ k).
    let here : k ≡ log2 = omega arith in
    let text_is : text ≡ other = s.2 ∙ ap (λ n. get_or settings (n - 20) []) here ∙ sym is in
    let both : true ≡ false = sym ((bytes_eq-Decides text other).1 text_is) ∙ sym e ∙ f in
    absurd cc)
    (cases_lt k log2)

-- a power of two in the range, as it is shifted
pow_le : (a b : ℕ) → a ≤ b → 2 ^ a ≤ 2 ^ b
pow_le a b h =
    ⊎_elim
    (λ (l : a < b). omega (arith, pow_below a b l))
    (λ (m : b ≤ a). let e : a ≡ b = omega arith in omega (arith, ap (λ k. 2 ^ k) e))
    (cases_lt a b)

log2_size : (log2 : ℕ) → 20 ≤ log2 → log2 ≤ 30 → IsSegSize (2 ^ log2)
log2_size log2 least most = record { exponent = log2; power = refl; least = pow_le 20 log2 least; most = pow_le log2 30 most }

shifted_is : (x : ℕ) → x < 4294967296 → 1 * x % 4294967296 ≡ x
shifted_is x small = omega arith

pub log2_found : (log2 shifted : ℕ) (o : Option ℕ) → shifted ≡ 1 * 2 ^ log2 % 4294967296 → SomeIff o (IsSegSize shifted) shifted
    → 20 ≤ log2 → log2 ≤ 30 → SomeIff o ((20 ≤ log2) × (log2 ≤ 30)) (2 ^ log2)
log2_found log2 shifted None e h least most =
    absurd (h (subst IsSegSize (sym (e ∙ shifted_is (2 ^ log2) (pow_below log2 32 (omega arith)))) (log2_size log2 least most)))
log2_found log2 shifted (Some x) e h least most = ((least, most), h.1 ∙ e ∙ shifted_is (2 ^ log2) (pow_below log2 32 (omega arith)))
