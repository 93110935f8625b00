-- How tokens go through the grammar of standby lists, one after another, and what those of a list say.
use Rattle.std.specs.Prelude.{◌≡◌, ℕ, ◌-◌, ◌^◌, ◌<◌, ◌≤◌, [], min, length, All, Bool, true, false, List, map, filter, Option, Some, None, slice_get, option_map, if◌then◌else◌}
use Rattle.std.specs.Char.{is_ascii_digit}
use Rattle.std.specs.Str.Parse.{digits_value}
use Rattle.repl_names.specs.declared.list.TheConstants.{NUMBER_LIMIT, SPELLING_LIMIT}
use Rattle.repl_names.specs.declared.fault.NamesFault.{NamesFault}
use Rattle.repl_names.specs.declared.fault.NamesFault.TheVariants as fault
use Rattle.repl_names.specs.declared.token.Kind.{Kind}
use Rattle.repl_names.specs.declared.token.Kind.TheVariants as kind
use Rattle.repl_names.specs.declared.token.Token.{Token}
use Rattle.repl_names.specs.declared.list.Method.TheVariants as method
use Rattle.repl_names.specs.declared.grammar.Shape.{Shape}
use Rattle.repl_names.specs.declared.grammar.State.{State}
use Rattle.repl_names.specs.declared.grammar.State.TheVariants as state
use Rattle.repl_names.specs.StandbyList.{Listing, list_spelling}

-- a token of this kind is a name
abbrev pub is_name : Kind → Bool
is_name kind.Word = true
is_name kind.Number = true
is_name kind.Quoted = true
is_name kind.Star = true
is_name _ = false

-- the state after a token of this kind, or none where no list goes on with it
abbrev pub step : State → Kind → Option State
step state.Start kind.Number = Some state.FirstNumber
step state.Start kind.First = Some state.Keyword
step state.Start kind.Any = Some state.Keyword
step state.Start k = if is_name k then Some state.Name else None
step state.FirstNumber kind.Comma = Some state.Comma
step state.FirstNumber kind.Opening = Some state.Opened
step state.FirstNumber k = None
step state.Name kind.Comma = Some state.Comma
step state.Name k = None
step state.Comma k = if is_name k then Some state.Name else None
step state.Keyword kind.Number = Some state.Number
step state.Keyword k = None
step state.Number kind.Opening = Some state.Opened
step state.Number k = None
step state.Opened k = if is_name k then Some state.Inside else None
step state.Inside kind.Comma = Some state.Opened
step state.Inside kind.Closing = Some state.Closed
step state.Inside k = None
step state.Closed k = None

-- a list may end here
abbrev pub may_end : State → Bool
may_end state.Start = true
may_end state.FirstNumber = true
may_end state.Name = true
may_end state.Closed = true
may_end _ = false

-- the kind of the token at the index, where there is one
abbrev pub kind_at : List Token → ℕ → Option Kind
kind_at tokens index = option_map (λ t. t.kind) (slice_get tokens index)

-- what the tokens of a list say, judged by the kinds of the first two
abbrev pub shape_from : Option Kind → Option Kind → Shape
shape_from (Some kind.First) second = record { method = method.First; number = Some 1; names = 3 }
shape_from (Some kind.Any) second = record { method = method.Any; number = Some 1; names = 3 }
shape_from first (Some kind.Opening) = record { method = method.First; number = Some 0; names = 2 }
shape_from first second = record { method = method.First; number = None; names = 0 }

-- the token at the index, where there is one
abbrev pub said_number : List Token → Option ℕ → Option Token
said_number tokens None = None
said_number tokens (Some index) = slice_get tokens index

-- the texts of those tokens that are names
abbrev pub said_names : List Token → List (List ℕ)
said_names tokens = map (λ t. t.text) (filter (λ t. is_name t.kind) tokens)

-- ---- refusals of what is said

-- the number that is said is 0 or too large
abbrev pub IsNumberFault : Token → NamesFault → Type 0
IsNumberFault token (fault.Zero place) = (place ≡ token.place) × (digits_value 10 token.text ≡ 0)
IsNumberFault token (fault.TooLarge place) = (place ≡ token.place) × (NUMBER_LIMIT < digits_value 10 token.text)
IsNumberFault token _ = ⊥

-- the same of a number that may be said
abbrev pub IsFaultOf : Option Token → NamesFault → Type 0
IsFaultOf (Some token) f = IsNumberFault token f
IsFaultOf None f = ⊥

-- the digits of the number that is said
abbrev pub HaveDigits : Option Token → Type 0
HaveDigits (Some token) = All (λ c. is_ascii_digit c ≡ true) token.text
HaveDigits None = Unit {0}

-- the spelling of the list is too long
abbrev pub IsTooLong : Listing → NamesFault → Type 0
IsTooLong list (fault.TooLong have) = (have ≡ min (length (list_spelling list)) (2 ^ 64 - 1)) × (SPELLING_LIMIT < length (list_spelling list))
IsTooLong list _ = ⊥

-- the number of a list of these tokens, which say this one or none
abbrev pub IsNumberOf : List Token → Option Token → ℕ → Type 0
IsNumberOf tokens (Some token) n = (n ≡ digits_value 10 token.text) × (0 < n) × (n ≤ NUMBER_LIMIT)
IsNumberOf [] None n = n ≡ 0
IsNumberOf tokens None n = n ≡ 1
