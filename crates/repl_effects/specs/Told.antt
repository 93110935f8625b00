-- Bytes that an object tells, as `Some`, or does not tell, as `None`. What is said of them holds where
-- they are told, and an object that tells goes on telling.
use Rattle.std.specs.Prelude.{◌≡◌, ℕ, List, ◌++◌, Option, IfSome}
use Rattle.std.specs.Option.{option_map}

abbrev pub Told : Type 0
Told = Option (List ℕ)

-- a fact on the bytes
abbrev pub IfTold : Told → (List ℕ → Type 0) → Type 0
IfTold told P = IfSome told P

-- these bytes were added at the end
abbrev pub Gained : Told → Told → List ℕ → Type 0
Gained before now bytes = now ≡ option_map (λ (old : List ℕ). old ++ bytes) before

-- these bytes were taken off the front
abbrev pub Lost : Told → Told → List ℕ → Type 0
Lost before now bytes = before ≡ option_map (λ (rest : List ℕ). bytes ++ rest) now

-- nothing changed
abbrev pub Kept : Told → Told → Type 0
Kept before now = now ≡ before
