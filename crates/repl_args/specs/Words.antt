-- Words of a command line, and what kinds of them are.
use Rattle.std.specs.Prelude.{◌≡◌, ℕ, List, [], ◌∷◌, map, String, string_bytes}
use Rattle.std.specs.declared.alloc.Global.{Global}

-- the words, each as its bytes
abbrev pub texts : List (String Global) → List (List ℕ)
texts words = map string_bytes words

-- a word of each kind, in order
abbrev pub AreOf : {K : Type 0} → (K → List ℕ → Type 0) → List K → List (List ℕ) → Type 0
AreOf is [] words = words ≡ []
AreOf is (kind ∷ kinds) words = (word : List ℕ) × (rest : List (List ℕ)) × (words ≡ word ∷ rest) × is kind word × AreOf is kinds rest
