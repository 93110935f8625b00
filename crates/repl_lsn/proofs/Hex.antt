-- Numbers in hexadecimal: what is written of a number in upper case, and that no other digits without a
-- leading zero write it.
use Rattle.std.proofs.Common.{◌≡◌, ℕ, zero, suc, eq-eqb, ◌+◌, ◌*◌, ◌/◌, ◌%◌, ◌^◌, ◌<◌, ◌≤◌, true, cond, List, [], ◌∷◌, ◌++◌, length, get_or, refl, sym, ap, subst, ◌∙◌, arith, ⊎_elim, length-append}
use borrow.Author.Tests.{ne_eqb}
use Rattle.std.proofs.lemmas.Bool.{cases_lt}
use Rattle.std.proofs.lemmas.Bool.Decides.{nat_tests}
use Rattle.std.proofs.lemmas.List.{append-nil, append_assoc, get_or_append_left}
use Rattle.std.proofs.lemmas.List.Elements.{All-push, All-cons, All-nil, recursion_from_All}
use Rattle.std.proofs.lemmas.Fmt.{digits_is_IsNumeral, hex_one_digit}
use Rattle.std.specs.Char.{digit_value}
use Rattle.std.specs.Fmt.{digits, digits_onto, digit_glyph}
use Rattle.std.specs.List.{All, AllByRecursion}
use Rattle.std.specs.Str.Parse.{AllDigits, digits_value, digits_value_after}
use Rattle.repl_lsn.specs.Position.{IsPlain}
use Rattle.repl_lsn.proofs.Halves.{half_fits}

-- the digit of a number below 16, in upper case
abbrev pub glyph : ℕ → ℕ
glyph d = digit_glyph true d

glyph_is : (d : ℕ) → d < 16 → (d < 10 → glyph d ≡ 48 + d) × (10 ≤ d → glyph d ≡ 55 + d)
glyph_is d small = (λ l. grind (arith, nat_tests), λ l. grind (arith, nat_tests))

digits_are : (n : ℕ) → digits 16 true n ≡ digits_onto 64 16 true n []
unfolding digits
digits_are n = refl

-- one turn of the writing, at the last digit and before
onto_last : (k n : ℕ) (after : List ℕ) → n < 16 → digits_onto (suc k) 16 true n after ≡ glyph n ∷ after
onto_last k n after small =
    let same : n % 16 ≡ n = omega arith in
    ap (λ b. cond b (glyph (n % 16) ∷ after) (digits_onto k 16 true (n / 16) (glyph (n % 16) ∷ after))) (eq-eqb (n / 16) 0 (omega arith))
    ∙ ap (λ d. glyph d ∷ after) same

onto_step : (k n : ℕ) (after : List ℕ) → 16 ≤ n → digits_onto (suc k) 16 true n after ≡ digits_onto k 16 true (n / 16)
    (glyph (n % 16) ∷ after)
onto_step k n after large = ap (λ b. cond b (glyph (n % 16) ∷ after) (digits_onto k 16 true (n / 16) (glyph (n % 16) ∷ after)))
    (ne_eqb (n / 16) 0 (λ e. omega arith))

onto-append : (k n : ℕ) (after : List ℕ) → digits_onto k 16 true n after ≡ digits_onto k 16 true n [] ++ after
onto-append zero n after = refl
onto-append (suc k) n after = ⊎_elim
    (λ l. onto_last k n after l ∙ ap (λ x. x ++ after) (sym (onto_last k n [] l)))
    (λ l. onto_step k n after l ∙ onto-append k (n / 16) (glyph (n % 16) ∷ after)
    ∙ sym (append_assoc (digits_onto k 16 true (n / 16) []) (glyph (n % 16) ∷ []) after)
    ∙ ap (λ x. x ++ after) (sym (onto_step k n [] l ∙ onto-append k (n / 16) (glyph (n % 16) ∷ []))))
    (cases_lt n 16)

onto_enough : (j k n : ℕ) (after : List ℕ) → n < 16 ^ suc j → n < 16 ^ suc k
    → digits_onto (suc j) 16 true n after ≡ digits_onto (suc k) 16 true n after
onto_enough zero k n after p q = onto_last zero n after (omega arith) ∙ sym (onto_last k n after (omega arith))
onto_enough (suc j) zero n after p q = onto_last (suc j) n after (omega arith) ∙ sym (onto_last zero n after (omega arith))
onto_enough (suc j) (suc k) n after p q = ⊎_elim
    (λ l. onto_last (suc j) n after l ∙ sym (onto_last (suc k) n after l))
    (λ l. onto_step (suc j) n after l ∙ onto_enough j k (n / 16) (glyph (n % 16) ∷ after) (omega arith) (omega arith)
    ∙ sym (onto_step (suc k) n after l))
    (cases_lt n 16)

-- a number of two digits or more is written by its front and its last digit
pub hex_step : (n : ℕ) → 16 ≤ n → n < 16 ^ 64 → digits 16 true n ≡ digits 16 true (n / 16) ++ (glyph (n % 16) ∷ [])
hex_step n large small =
    digits_are n ∙ onto_step 63 n [] large ∙ onto_enough 62 63 (n / 16) (glyph (n % 16) ∷ []) (omega arith) (omega arith)
    ∙ onto-append 64 (n / 16) (glyph (n % 16) ∷ [])
    ∙ ap (λ x. x ++ (glyph (n % 16) ∷ [])) (sym (digits_are (n / 16)))

pub hex_digit : (n : ℕ) → n < 16 → digits 16 true n ≡ glyph n ∷ []
hex_digit n small = hex_one_digit true n small

-- induction on the digits of a number: one digit, then one more at the end
pub hex_by_steps : (P : ℕ → List ℕ → Type 0) → ((n : ℕ) → n < 16 → P n (glyph n ∷ [])) → ((n : ℕ) (ds : List ℕ) → 16 ≤ n → P (n / 16) ds
    → P n (ds ++ (glyph (n % 16) ∷ [])))
    → (k n : ℕ) → n ≤ k → n < 16 ^ 64 → P n (digits 16 true n)
hex_by_steps P one more zero n le small = subst (P n) (sym (hex_digit n (omega arith))) (one n (omega arith))
hex_by_steps P one more (suc k) n le small = ⊎_elim
    (λ l. subst (P n) (sym (hex_digit n l)) (one n l))
    (λ l. subst (P n) (sym (hex_step n l small)) (more n (digits 16 true (n / 16)) l (hex_by_steps P one more k (n / 16) (omega arith)
    (omega arith))))
    (cases_lt n 16)

-- what is written of a number: how many digits, in upper case, and no leading zero
pub record Written (n : ℕ) (ds : List ℕ) : Type 0 where
  pub some : 0 < length ds
  pub few : (k : ℕ) → n < 16 ^ suc k → length ds ≤ suc k
  pub upper : All (λ c. c < 97) ds
  pub leading : 0 < n → get_or ds 0 0 ≡ 48 → ⊥

glyph_upper : (d : ℕ) → d < 16 → glyph d < 97
glyph_upper d small = ⊎_elim (λ l. omega (arith, (glyph_is d small).0 l)) (λ l. omega (arith, (glyph_is d small).1 l)) (cases_lt d 10)

glyph_not_zero : (d : ℕ) → d < 16 → 0 < d → glyph d ≡ 48 → ⊥
glyph_not_zero d small some e = ⊎_elim (λ l. omega (arith, (glyph_is d small).0 l)) (λ l. omega (
  arith,
  (glyph_is d small).1 l,
)) (cases_lt d 10)

written_one : (n : ℕ) → n < 16 → Written n (glyph n ∷ [])
written_one n small = record {
  some = omega arith;
  few = λ k h. omega arith;
  upper = All-cons (λ c. c < 97) (glyph n) [] (glyph_upper n small) (All-nil (λ c. c < 97));
  leading = glyph_not_zero n small;
}

written_more : (n : ℕ) (ds : List ℕ) → 16 ≤ n → Written (n / 16) ds → Written n (ds ++ (glyph (n % 16) ∷ []))
written_more n ds large h = record {
  some = omega (arith, length-append ds (glyph (n % 16) ∷ []), h.some);
  few = few;
  upper = All-push (λ c. c < 97) ds (glyph (n % 16)) h.upper (glyph_upper (n % 16) (omega arith));
  leading = λ some e. h.leading (omega arith) (sym (get_or_append_left ds (glyph (n % 16) ∷ []) 0 0 h.some) ∙ e);
}
  where
    few : (k : ℕ) → n < 16 ^ suc k → length (ds ++ (glyph (n % 16) ∷ [])) ≤ suc k
    few zero fits = absurd (omega arith)
    few (suc k) fits = omega (arith, length-append ds (glyph (n % 16) ∷ []), h.few k (omega arith))

pub written : (n : ℕ) → n < 16 ^ 64 → Written n (digits 16 true n)
written n = hex_by_steps Written written_one written_more n n (omega arith)

-- what is written of a number below 2 ^ 32 is a plain half, of that value
pub plain_digits : (n : ℕ) → n < 2 ^ 32 → IsPlain (digits 16 true n)
plain_digits n small =
    let w = written n (omega arith) in
    let most : length (digits 16 true n) ≤ 8 = w.few 7 (omega arith) in
    record {
      is_half = record {
        some = w.some;
        few = most;
        hexadecimal =
            (digits_is_IsNumeral 16 true (omega arith) (omega arith) n (omega arith)).0.1;
      };
      upper = w.upper;
      leading = λ e. ⊎_elim (λ l. absurd (w.leading l e)) (λ l. omega (arith, w.some, w.few 0 (omega arith))) (cases_lt 0 n);
    }

pub value_digits : (n : ℕ) → n < 2 ^ 32 → digits_value 16 (digits 16 true n) ≡ n
value_digits n small = (digits_is_IsNumeral 16 true (omega arith) (omega arith) n (omega arith)).1

-- a digit in upper case is the one written of its value
pub glyph_value : (c : ℕ) → digit_value c < 16 → c < 97 → glyph (digit_value c) ≡ c
glyph_value c digit upper = grind (arith, nat_tests)

le_value_after : (n : ℕ) (ds : List ℕ) → n ≤ digits_value_after 16 n ds
le_value_after n [] = omega arith
le_value_after n (c ∷ cs) = omega (arith, le_value_after (n * 16 + digit_value c) cs)

digits_value_after_front : (n : ℕ) (ds : List ℕ) → 0 < n → AllDigits 16 ds → AllByRecursion (λ c. c < 97) ds
    → digits_value_after 16 n ds < 16 ^ 64 → digits 16 true (digits_value_after 16 n ds) ≡ digits 16 true n ++ ds
digits_value_after_front n [] some d u small = sym (append-nil (digits 16 true n))
digits_value_after_front n (c ∷ cs) some d u small =
    let m : ℕ = n * 16 + digit_value c in
    let front : m / 16 ≡ n = omega (arith, d.0) in
    let end : m % 16 ≡ digit_value c = omega (arith, d.0) in
    digits_value_after_front m cs (omega arith) d.1 u.1 small
    ∙ ap (λ x. x ++ cs) (hex_step m (omega arith) (omega (arith, le_value_after m cs))
    ∙ (λ i. digits 16 true (front i) ++ ((ap glyph end ∙ glyph_value c d.0 u.0) i ∷ [])))
    ∙ append_assoc (digits 16 true n) (c ∷ []) cs

digits_value_whole : (ds : List ℕ) → AllDigits 16 ds → AllByRecursion (λ c. c < 97) ds → 0 < length ds
    → (get_or ds 0 0 ≡ 48 → length ds ≡ 1) → digits_value 16 ds < 16 ^ 64 → digits 16 true (digits_value 16 ds) ≡ ds
digits_value_whole [] d u some lead small = absurd (omega arith)
digits_value_whole (c ∷ []) d u some lead small =
    let is : 0 * 16 + digit_value c ≡ digit_value c = omega arith in
    ap (digits 16 true) is ∙ hex_digit (digit_value c) d.0 ∙ ap (λ x. x ∷ []) (glyph_value c d.0 u.0)
digits_value_whole (c ∷ e ∷ cs) d u some lead small =
    let is : 0 * 16 + digit_value c ≡ digit_value c = omega arith in
    let no : c ≡ 48 → ⊥ = λ z. omega (arith, lead z) in
    let back = glyph_value c d.0 u.0 in
    let first : 0 < digit_value c = ⊎_elim (λ l. l) (λ l. let z : digit_value c ≡ 0 =
    omega arith in absurd (no (sym back ∙ ap glyph z))) (cases_lt 0 (digit_value c)) in
    digits_value_after_front (0 * 16 + digit_value c) (e ∷ cs) (omega arith) d.1 u.1 small
    ∙ ap (λ x. x ++ (e ∷ cs)) (ap (digits 16 true) is ∙ hex_digit (digit_value c) d.0 ∙ ap (λ x. x ∷ []) back)

-- a plain half is what is written of its value
pub plain_is_digits : (half : List ℕ) → IsPlain half → digits 16 true (digits_value 16 half) ≡ half
plain_is_digits half h = digits_value_whole half h.is_half.hexadecimal (recursion_from_All (λ c. c < 97) half h.upper) h.is_half.some
    h.leading (omega (arith, half_fits half h.is_half.hexadecimal h.is_half.few))
