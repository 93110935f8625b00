-- How long spellings are.
use Rattle.std.proofs.Common.{◌≡◌, ℕ, ◌+◌, ◌*◌, ◌^◌, ◌<◌, ◌≤◌, Bool, true, false, cond, ◌==◌, if◌then◌else◌, ⊎_elim, List, [], ◌∷◌, ◌++◌, length, decimal, sum_by, count_by, flat_map, bytes_eq, codes, refl, ap, ◌∙◌, arith, length-append}
use Rattle.std.proofs.Math.Nat.{pow-le-pow_right}
use Rattle.std.proofs.lemmas.Bool.{cases_lt}
use Rattle.std.proofs.lemmas.Grind.{pow_more}
use Rattle.std.proofs.lemmas.List.Sums.{sum_by-cons}
use Rattle.std.proofs.lemmas.Fmt.{length-decimal-le, decimal_is_IsNumeral}
use Rattle.std.proofs.lemmas.Int.Digits.{digits_value-lt}
use Rattle.repl_token.specs.Token.{doubled, quoted}
use Rattle.repl_names.specs.declared.list.Method.{Method}
use Rattle.repl_names.specs.StandbyList.{method_spelling, list_spelling, name_spelling, names_spelling}

pub decimal_length : (n k : ℕ) → 10 ^ k ≤ n → n < 10 * 10 ^ k → n < 2 ^ 64 → length (decimal n) ≡ k + 1
decimal_length n k low high small =
    let most : length (decimal n) ≤ k + 1 = length-decimal-le (k + 1) n (omega arith) (omega (arith, pow_more 10 k)) small in
    let numeral = decimal_is_IsNumeral n small in
    let above : n < 10 ^ length (decimal n) = omega (arith, numeral.1, digits_value-lt 10 (decimal n) numeral.0.1) in
    ⊎_elim
    (λ l. omega arith)
    (λ l. let le : 10 ^ length (decimal n) ≤ 10 ^ k = pow-le-pow_right (omega arith) l in absurd (omega arith))
    (cases_lt k (length (decimal n)))

-- ---- names

byte_length : (t : Bool) (b : ℕ) (others : List ℕ)
    → length ((if t then 34 ∷ 34 ∷ [] else b ∷ []) ++ others) ≡ cond t 1 0 + (1 + length others)
byte_length true b others = omega arith
byte_length false b others = omega arith

quoted_length : (name : List ℕ) → length (flat_map (doubled 34) name) ≡ length name + count_by (λ b. b == 34) name
quoted_length [] = refl
quoted_length (b ∷ name) =
    let spelled : length (flat_map (doubled 34) (b ∷ name)) ≡ cond (b == 34) 1 0 + (1 + length (flat_map (doubled 34) name)) =
    byte_length (b == 34) b (flat_map (doubled 34) name) in
    let quotes : count_by (λ c. c == 34) (b ∷ name) ≡ cond (b == 34) 1 0 + count_by (λ c. c == 34) name =
    sum_by-cons (λ c. cond (c == 34) 1 0) b name in
    omega (arith, spelled, quotes, quoted_length name)

pub name_length_quoted : (name : List ℕ) → bytes_eq name (codes "*") ≡ false
    → length (name_spelling name) ≡ length name + count_by (λ b. b == 34) name + 2
name_length_quoted name e =
    ap (λ t. length (if t then codes "*" else quoted 34 name)) e
    ∙ omega (arith, length-append (flat_map (doubled 34) name) (34 ∷ []), quoted_length name)

-- each with a comma and a space, which the last has not
pub names_length_is : (name : List ℕ) (names : List (List ℕ))
    → length (names_spelling (name ∷ names)) + 2 ≡ sum_by (λ n. length (name_spelling n) + 2) (name ∷ names)
names_length_is name [] = omega arith
names_length_is name (next ∷ names) =
    let rest = names_spelling (next ∷ names) in
    let spelled : length (names_spelling (name ∷ next ∷ names)) ≡ length (name_spelling name ++ codes ", ") + length rest =
    length-append (name_spelling name ++ codes ", ") rest in
    let lengths : sum_by (λ n. length (name_spelling n) + 2) (name ∷ next ∷ names) ≡ length (name_spelling name) + 2 + sum_by
    (λ n. length (name_spelling n) + 2) (next ∷ names) = sum_by-cons (λ n. length (name_spelling n) + 2) name (next ∷ names) in
    omega (arith, spelled, lengths, length-append (name_spelling name) (codes ", "), names_length_is next names)

pub spelling_length_is : (m : Method) (n : ℕ) (names : List (List ℕ)) → 0 < length names
    → length (list_spelling (record { method = m; number = n; names = names })) ≡ sum_by (λ n. length (name_spelling n) + 2) names +
    (length (method_spelling m) + length (decimal n) + 2)
spelling_length_is m n [] l = absurd (omega arith)
spelling_length_is m n (name ∷ names) l =
    let k = method_spelling m in
    let d = decimal n in
    let s = names_spelling (name ∷ names) in
    omega (
      arith,
      length-append (k ++ codes " " ++ d ++ codes " (" ++ s) (codes ")"),
      length-append
          (k ++ codes " " ++ d ++ codes " (") s,
      length-append (k ++ codes " " ++ d) (codes " ("),
      length-append
          (k ++ codes " ") d,
      length-append k (codes " "),
      names_length_is name names,
    )
