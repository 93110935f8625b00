-- Reading the fields of a body from its front: a value and the bytes after it, or a fault, as the number of
-- bytes left in the body there.
use Rattle.std.specs.Prelude.{ℕ, zero, suc, List, [], ◌∷◌, length, take, Option, Some, None, Result, Ok, Err, ◌==◌, if◌then◌else◌}
use Rattle.std.specs.Option.{option_map}
use Rattle.std.specs.Int.{w32, from_be_bytes}

infixl 10 ◌>>=◌
abbrev pub ◌>>=◌ : {A B : Type 0} → Result A ℕ → (A → Result B ℕ) → Result B ℕ
(Ok x) >>= f = f x
(Err left) >>= f = Err left

-- the bytes up to the first zero byte, and those after it
abbrev pub at_zero : List ℕ → Option (List ℕ × List ℕ)
at_zero [] = None
at_zero (zero ∷ rest) = Some ([], rest)
at_zero (suc b ∷ rest) = option_map (λ (parts : List ℕ × List ℕ). (suc b ∷ parts.0, parts.1)) (at_zero rest)

abbrev pub ok_or_left : {A : Type 0} → Option A → ℕ → Result A ℕ
ok_or_left None left = Err left
ok_or_left (Some x) left = Ok x

unfoldable pub string_at : List ℕ → Result (List ℕ × List ℕ) ℕ
string_at bytes = ok_or_left (at_zero bytes) (length bytes)

-- nothing stands after the last field
abbrev pub whole : {A : Type 0} → A × List ℕ → Result A ℕ
whole (x, rest) = if length rest == 0 then Ok x else Err (length rest)

-- the number in the first four bytes
abbrev pub number : List ℕ → ℕ
number bytes = from_be_bytes w32 (take 4 bytes)
