-- The words that are a line of a table.
use Rattle.std.specs.Prelude.{◌≡◌, ◌⊎◌, ℕ, ◌+◌, List, [], ◌∷◌, ◌++◌, length, Contains, Option, Some, None}
use Rattle.repl_text.specs.Language.{StopsAt}
use Rattle.repl_args.specs.declared.line.Line.{Line}
use Rattle.repl_args.specs.Words.{AreOf}
use Rattle.repl_args.specs.Forms.{PlainOption, PlainTail, no_tail, tail_maybe, tail_options, PlainForm, PlainTable}
use Rattle.repl_args.specs.Options.{AreOptions}

-- what stands before the command: nothing, or the lead's name and its value
abbrev pub IsLead : {K : Type 0} → (K → List ℕ → Type 0) → Option (PlainOption K) → List (List ℕ) → Type 0
IsLead is None words = words ≡ []
IsLead is (Some lead) words = (words ≡ []) ⊎ ((value : List ℕ) × (words ≡ lead.name ∷ value ∷ []) × is lead.kind value)

-- what stands after the arguments
abbrev pub IsTail : {K : Type 0} → (K → List ℕ → Type 0) → PlainTail K → List (List ℕ) → Type 0
IsTail is no_tail words = words ≡ []
IsTail is (tail_maybe kind) words = (words ≡ []) ⊎ ((word : List ℕ) × (words ≡ word ∷ []) × is kind word)
IsTail is (tail_options options) words = AreOptions is options words

-- the words are a line of this form: a lead, the command's name, a word for each argument, and a tail
pub record IsLineOf {K C : Type 0} (is : K → List ℕ → Type 0) (table : PlainTable K C) (form : PlainForm K C) (words : List (List ℕ)) : Type 0 where
  pub lead : List (List ℕ)
  pub arguments : List (List ℕ)
  pub rest : List (List ℕ)
  pub parts : words ≡ lead ++ form.name ∷ arguments ++ rest
  pub lead_is : IsLead is table.lead lead
  pub arguments_are : AreOf is form.arguments arguments
  pub rest_is : IsTail is form.tail rest

-- the words are a line of one of the forms
abbrev pub IsLine : {K C : Type 0} → (K → List ℕ → Type 0) → PlainTable K C → List (List ℕ) → Type 0
IsLine {K} {C} is table words = (form : PlainForm K C) × Contains table.forms form × IsLineOf is table form words

-- where in a line of this form its parts stand: the command's name, and what is after its arguments
pub record IsReadOf {K C : Type 0} (is : K → List ℕ → Type 0) (table : PlainTable K C) (form : PlainForm K C) (words : List (List ℕ))
    (line : Line C) : Type 0 where
  pub is_line : IsLineOf is table form words
  pub first : line.first ≡ length is_line.lead
  pub past : line.past ≡ line.first + 1 + length form.arguments

-- what is answered of a line of the table: its command, and where its parts stand
pub record IsRead {K C : Type 0} (is : K → List ℕ → Type 0) (table : PlainTable K C) (words : List (List ℕ)) (line : Line C) : Type 0 where
  pub form : PlainForm K C
  pub one : Contains table.forms form
  pub command : form.command ≡ line.command
  pub read : IsReadOf is table form words line

-- counted from 1, the first word with which no line goes on, or the one missing after the last
pub record IsUsage {K C : Type 0} (is : K → List ℕ → Type 0) (table : PlainTable K C) (words : List (List ℕ)) (word : ℕ) : Type 0 where
  pub place : ℕ
  pub number : word ≡ place + 1
  pub stops : StopsAt (IsLine is table) words place
