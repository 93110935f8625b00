-- A position's slash stands where its first half ends.
use Rattle.std.proofs.Common.{◌≡◌, ℕ, ◌+◌, ◌*◌, ◌^◌, ◌<◌, List, [], ◌∷◌, ◌++◌, refl, sym, ap, subst, ◌∙◌, arith}
use Rattle.std.specs.Char.{digit_value}
use Rattle.std.specs.Str.Parse.{AllDigits, digits_value}
use Rattle.repl_lsn.specs.Position.{Spells}

-- a slash is no digit
pub not_slash : (c : ℕ) → digit_value c < 16 → c ≡ 47 → ⊥
not_slash c digit e = let no : digit_value 47 < 16 = subst (λ x. digit_value x < 16) e digit in omega arith

-- what stands past the end is no digit
pub not_end : (c : ℕ) → digit_value c < 16 → c ≡ 0 → ⊥
not_end c digit e = let no : digit_value 0 < 16 = subst (λ x. digit_value x < 16) e digit in omega arith

-- a text is split at a slash after digits in one way
pub one_split : (a b c d : List ℕ) → AllDigits 16 a → AllDigits 16 b → a ++ 47 ∷ c ≡ b ++ 47 ∷ d → (a ≡ b) × (c ≡ d)
one_split [] [] c d p q e = (refl, cc)
one_split [] (y ∷ b) c d p q e = absurd (not_slash y q.0 (cc))
one_split (x ∷ a) [] c d p q e = absurd (not_slash x p.0 (cc))
one_split (x ∷ a) (y ∷ b) c d p q e =
    let first : x ≡ y = cc in
    let rest : a ++ 47 ∷ c ≡ b ++ 47 ∷ d = cc in
    let r = one_split a b c d p.1 q.1 rest in
    (cc, r.1)

pub one_position : (text : List ℕ) (a b : ℕ) → Spells text a → Spells text b → a ≡ b
one_position text a b p q =
    let r = one_split p.high q.high p.low q.low p.high_is.hexadecimal q.high_is.hexadecimal (sym p.parts ∙ q.parts) in
    p.value ∙ ap (λ high. digits_value 16 high * 2 ^ 32 + digits_value 16 p.low) r.0
    ∙ ap (λ low. digits_value 16 q.high * 2 ^ 32 + digits_value 16 low) r.1 ∙ sym q.value
