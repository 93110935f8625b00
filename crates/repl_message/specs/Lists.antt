-- What the lists inside messages keep, and which of their entries counts.
use Rattle.std.specs.Prelude.{◌≡◌, ◌≢◌, ℕ, ◌<◌, List, [], ◌∷◌, ◌++◌, length}
use Rattle.std.specs.List.{All}
use Rattle.repl_message.specs.declared.startup.Pair.{Pair}
use Rattle.repl_message.specs.declared.back.ErrorField.{ErrorField}

-- no name is empty
abbrev pub AreNamed : List Pair → Type 0
AreNamed pairs = All (λ (p : Pair). 0 < length p.name) pairs

-- no code is 0
abbrev pub AreCoded : List ErrorField → Type 0
AreCoded fields = All (λ (f : ErrorField). 0 < f.code) fields

-- The fields that each error has: its severity twice, `S` and `V`, its code, `C`, and its text, `M`.
abbrev pub told : List ℕ → List ℕ → List ℕ → List ErrorField
told severity code text =
    record { code = 83; text = severity } ∷ record { code = 86; text = severity } ∷ record { code = 67; text = code }
    ∷ record { code = 77; text = text } ∷ []

-- ---- the entry that counts

-- no field has this code
abbrev pub HasNoField : ℕ → List ErrorField → Type 0
HasNoField code fields = All (λ (f : ErrorField). f.code ≢ code) fields

-- the first field with this code has this text
pub record IsFirst (code : ℕ) (fields : List ErrorField) (text : List ℕ) : Type 0 where
  pub before : List ErrorField
  pub after : List ErrorField
  pub parts : fields ≡ before ++ record { code = code; text = text } ∷ after
  pub others : HasNoField code before

-- no parameter has this name
abbrev pub HasNoPair : List ℕ → List Pair → Type 0
HasNoPair name pairs = All (λ (p : Pair). p.name ≢ name) pairs

-- the last parameter of this name, which is the one that counts, has this value
pub record IsLast (name : List ℕ) (pairs : List Pair) (value : List ℕ) : Type 0 where
  pub before : List Pair
  pub after : List Pair
  pub parts : pairs ≡ before ++ record { name = name; value = value } ∷ after
  pub others : HasNoPair name after
