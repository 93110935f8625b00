-- The tokens of a text, where this is the class of each byte.
use Rattle.std.specs.Prelude.{◌≡◌, ℕ, ◌+◌, Bool, true, false, ◌==◌, if◌then◌else◌, List, [], ◌∷◌, ◌++◌, map, length, flat_map, All}
use Rattle.std.specs.Char.{to_ascii_lowercase}
use Rattle.repl_token.specs.declared.class.Class.{Class}
use Rattle.repl_token.specs.declared.class.Class.TheVariants as class
use Rattle.repl_token.specs.declared.token.Kind.{Kind}
use Rattle.repl_token.specs.declared.token.Kind.TheVariants as kind
use Rattle.repl_token.specs.Class.{is_blank, is_digit, is_inside, begins_nothing}

-- a token: its kind, its place, and what it says
pub record RawToken : Type 0 where
  pub kind : Kind
  pub place : ℕ
  pub text : List ℕ

-- no byte that passes the test stands first
abbrev pub EndsBefore : (ℕ → Bool) → List ℕ → Type 0
EndsBefore test [] = Unit {0}
EndsBefore test (c ∷ past) = test c ≡ false

-- the first of these bytes is of this class, the others go on, and what is after them does not
pub record IsRun (class_of : ℕ → Class) (begins : Class) (goes_on : Class → Bool) (bytes past : List ℕ) : Type 0 where
  pub first : ℕ
  pub others : List ℕ
  pub parts : bytes ≡ first ∷ others
  pub starts : class_of first ≡ begins
  pub continues : All (λ c. goes_on (class_of c) ≡ true) others
  pub ends : EndsBefore (λ c. goes_on (class_of c)) past

-- in quotes the quote is written twice
abbrev pub doubled : ℕ → ℕ → List ℕ
doubled quote c = if c == quote then quote ∷ quote ∷ [] else c ∷ []

abbrev pub quoted : ℕ → List ℕ → List ℕ
quoted quote text = quote ∷ flat_map (doubled quote) text ++ quote ∷ []

-- these bytes are this text in quotes, and no quote is after it
pub record IsQuoted (quote : ℕ) (text bytes past : List ℕ) : Type 0 where
  pub spelled : bytes ≡ quoted quote text
  pub ends : EndsBefore (λ c. c == quote) past

-- quotes that do not end
abbrev pub IsUnclosed : ℕ → List ℕ → Type 0
IsUnclosed quote bytes = (text : List ℕ) × (bytes ≡ quote ∷ flat_map (doubled quote) text)

-- the first of these bytes begins no token
abbrev pub IsWrong : (ℕ → Class) → List ℕ → Type 0
IsWrong class_of bytes = (first : ℕ) × (past : List ℕ) × (bytes ≡ first ∷ past) × (begins_nothing (class_of first) ≡ true)

-- A token of this kind, which says this text, is spelled by these bytes, where those are after it. A word, a number
-- and a text in quotes are as long as they can be. Nothing is read after a wrong byte, or after quotes that do not
-- end.
abbrev pub IsToken : (ℕ → Class) → Kind → List ℕ → List ℕ → List ℕ → Type 0
IsToken class_of kind.Word text bytes past = (text ≡ bytes) × IsRun class_of class.Letter is_inside bytes past
IsToken class_of kind.Number text bytes past = (text ≡ bytes) × IsRun class_of class.Digit is_digit bytes past
IsToken class_of (kind.Alone sign) text bytes past = (text ≡ []) × (bytes ≡ sign ∷ []) × (class_of sign ≡ class.Alone)
IsToken class_of (kind.Quoted quote) text bytes past = (class_of quote ≡ class.Quote) × IsQuoted quote text bytes past
IsToken class_of kind.Wrong text bytes past = (text ≡ []) × (past ≡ []) × IsWrong class_of bytes
IsToken class_of (kind.Unclosed quote) text bytes past = (text ≡ []) × (past ≡ []) × (class_of quote ≡ class.Quote)
    × IsUnclosed quote bytes

-- after blanks this token stands in these bytes, which begin at this place, and those are after it
pub record IsNext (class_of : ℕ → Class) (at : ℕ) (bytes : List ℕ) (token : RawToken) (past : List ℕ) : Type 0 where
  pub blanks : List ℕ
  pub spelled : List ℕ
  pub parts : bytes ≡ blanks ++ spelled ++ past
  pub blank : All (λ c. is_blank (class_of c) ≡ true) blanks
  pub place : token.place ≡ at + length blanks
  pub is : IsToken class_of token.kind token.text spelled past

-- these bytes, which begin at this place, are these tokens and blanks
abbrev pub Reads : (ℕ → Class) → ℕ → List ℕ → List RawToken → Type 0
Reads class_of at bytes [] = All (λ c. is_blank (class_of c) ≡ true) bytes
Reads class_of at bytes (token ∷ tokens) = (past : List ℕ) × (place : ℕ) × IsNext class_of at bytes token past
    × (place + length past ≡ at + length bytes) × Reads class_of place past tokens

-- the same, where a language makes its own tokens of them
abbrev pub ReadsAs : {A : Type 0} → (ℕ → Class) → (RawToken → A) → ℕ → List ℕ → List A → Type 0
ReadsAs class_of meaning at bytes tokens = (raw : List RawToken) × Reads class_of at bytes raw × (tokens ≡ map meaning raw)

-- the bytes are this word in any case
abbrev pub Lowers : List ℕ → List ℕ → Type 0
Lowers bytes word = map to_ascii_lowercase bytes ≡ word
