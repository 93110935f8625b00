-- Options: a name and its value in turn, in any order, each name at most once.
use Rattle.std.specs.Prelude.{◌≡◌, ◌⊎◌, ℕ, List, [], ◌∷◌, ◌++◌, Contains}
use Rattle.repl_args.specs.Forms.{PlainOption}

-- among names and values in turn, this value stands after this name
abbrev pub HasValue : List (List ℕ) → List ℕ → List ℕ → Type 0
HasValue [] name value = ⊥
HasValue (_ ∷ []) name value = ⊥
HasValue (n ∷ v ∷ rest) name value = ((n ≡ name) × (v ≡ value)) ⊎ HasValue rest name value

-- some value does
abbrev pub HasName : List (List ℕ) → List ℕ → Type 0
HasName words name = (value : List ℕ) × HasValue words name value

-- one of the options has this name, and the value is of its kind
pub record IsOptionOf {K : Type 0} (is : K → List ℕ → Type 0) (options : List (PlainOption K)) (name value : List ℕ) : Type 0 where
  pub option : PlainOption K
  pub one : Contains options option
  pub named : option.name ≡ name
  pub valued : is option.kind value

-- names and values of options, where those that stand before are gone
abbrev pub AreOptionsPast : {K : Type 0} → (K → List ℕ → Type 0) → List (PlainOption K) → List (List ℕ) → List (List ℕ) → Type 0
AreOptionsPast is options before [] = Unit {0}
AreOptionsPast is options before (_ ∷ []) = ⊥
AreOptionsPast is options before (name ∷ value ∷ rest) =
    ¬ HasName before name × IsOptionOf is options name value × AreOptionsPast is options (before ++ name ∷ value ∷ []) rest

-- names and values of options, each name once
abbrev pub AreOptions : {K : Type 0} → (K → List ℕ → Type 0) → List (PlainOption K) → List (List ℕ) → Type 0
AreOptions is options words = AreOptionsPast is options [] words
