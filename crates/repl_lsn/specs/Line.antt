-- Lines of a history's text, and the reasons in them.
use Rattle.std.specs.Prelude.{◌≡◌, ◌≢◌, ℕ, Bool, true, false, ◌||◌, ◌==◌, List, [], ◌∷◌, All}

-- a space or a tab
abbrev pub is_blank : ℕ → Bool
is_blank c = c == 32 || c == 9

abbrev pub AreBlank : List ℕ → Type 0
AreBlank bytes = All (λ c. is_blank c ≡ true) bytes

-- no blank stands first
abbrev pub BeginsInk : List ℕ → Type 0
BeginsInk [] = Unit {0}
BeginsInk (c ∷ cs) = is_blank c ≡ false

-- no blank stands last
abbrev pub EndsInk : List ℕ → Type 0
EndsInk [] = Unit {0}
EndsInk (c ∷ []) = is_blank c ≡ false
EndsInk (c ∷ d ∷ cs) = EndsInk (d ∷ cs)

-- what a reason may be: no line feed is in it, and no blank is at its ends
pub record IsLine (line : List ℕ) : Type 0 where
  pub one : All (λ c. c ≢ 10) line
  pub begins : BeginsInk line
  pub ends : EndsInk line
