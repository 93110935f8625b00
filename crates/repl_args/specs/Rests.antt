-- What is left of a line after its first words: the languages between the parts of the reading.
use Rattle.std.specs.Prelude.{◌≡◌, ℕ, ◌+◌, List, [], ◌∷◌, drop, Contains}
use Rattle.repl_text.specs.Language.{StopsAt}
use Rattle.repl_args.specs.Forms.{PlainForm}
use Rattle.repl_args.specs.Lines.{IsTail}

-- After the place the language L is `rest`: where the rest leaves that, the list leaves L, and where it is in that, the list is in L.
pub record GoesOn {A : Type 0} (L : List A → Type 0) (list : List A) (rest : List A → Type 0) (place : ℕ) : Type 0 where
  pub stops : (p : ℕ) → StopsAt rest (drop place list) p → StopsAt L list (place + p)
  pub is : rest (drop place list) → L list

-- a word of each kind, and then what `T` says
abbrev pub Past : {K : Type 0} → (K → List ℕ → Type 0) → List K → (List (List ℕ) → Type 0) → List (List ℕ) → Type 0
Past is [] T words = T words
Past is (kind ∷ kinds) T [] = ⊥
Past is (kind ∷ kinds) T (word ∷ words) = is kind word × Past is kinds T words

-- the arguments and the tail of the form
abbrev pub IsPastName : {K C : Type 0} → (K → List ℕ → Type 0) → PlainForm K C → List (List ℕ) → Type 0
IsPastName is form words = Past is form.arguments (IsTail is form.tail) words

-- its name, and those
abbrev pub IsCommandOf : {K C : Type 0} → (K → List ℕ → Type 0) → PlainForm K C → List (List ℕ) → Type 0
IsCommandOf is form [] = ⊥
IsCommandOf is form (word ∷ words) = (form.name ≡ word) × IsPastName is form words

-- of one of the forms
abbrev pub IsCommand : {K C : Type 0} → (K → List ℕ → Type 0) → List (PlainForm K C) → List (List ℕ) → Type 0
IsCommand {K} {C} is forms words = (form : PlainForm K C) × Contains forms form × IsCommandOf is form words
