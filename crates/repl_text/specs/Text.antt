-- Strings of the protocol.
use Rattle.std.specs.Prelude.{ℕ, ◌<◌, List, [], ◌∷◌, Bool, true, ◌&&◌, nat_lt}
use Rattle.std.specs.List.{All}

-- bytes without a zero byte
abbrev pub IsText : List ℕ → Type 0
IsText bytes = All (λ b. (0 < b) × (b < 256)) bytes

-- the same as a test, which computes at a literal
abbrev pub is_text_by_test : List ℕ → Bool
is_text_by_test [] = true
is_text_by_test (b ∷ bs) = (nat_lt 0 b && nat_lt b 256) && is_text_by_test bs
