-- The grammar of standby lists, over tokens, and where a text leaves it.
use Rattle.std.specs.Prelude.{◌≡◌, ℕ, zero, suc, ◌-◌, ◌^◌, ◌<◌, ◌⊎◌, min, List, [], ◌∷◌, ◌++◌, length, Option, Some, None}
use Rattle.std.specs.Str.Parse.{digits_value}
use Rattle.repl_text.specs.Language.{StopsAt}
use Rattle.repl_names.specs.declared.list.Method.{Method}
use Rattle.repl_names.specs.declared.list.Method.TheVariants as method
use Rattle.repl_names.specs.declared.list.TheConstants.{NUMBER_LIMIT, SPELLING_LIMIT}
use Rattle.repl_names.specs.declared.token.Kind.{Kind}
use Rattle.repl_names.specs.declared.token.Kind.TheVariants as kind
use Rattle.repl_names.specs.declared.token.Token.{Token}
use Rattle.repl_names.specs.declared.fault.NamesFault.{NamesFault}
use Rattle.repl_names.specs.declared.fault.NamesFault.TheVariants as fault
use Rattle.repl_names.specs.StandbyList.{Listing, IsListing, Demands, list_spelling}
use Rattle.repl_names.specs.Token.{ReadsListTokens}

-- a name is a word that is no keyword, a number, a quoted name or `*`
abbrev pub IsName : Kind → Type 0
IsName k = (k ≡ kind.Word) ⊎ (k ≡ kind.Number) ⊎ (k ≡ kind.Quoted) ⊎ (k ≡ kind.Star)

-- names with commas between them
abbrev pub AreNames : List Token → List (List ℕ) → Type 0
AreNames [] names = ⊥
AreNames (token ∷ []) names = IsName token.kind × (names ≡ token.text ∷ [])
AreNames (token ∷ comma ∷ tokens) names = IsName token.kind × (comma.kind ≡ kind.Comma)
    × ((others : List (List ℕ)) × (names ≡ token.text ∷ others) × AreNames tokens others)

-- a number, and names in parentheses
pub record AreCounted (tokens : List Token) (number : Token) (names : List (List ℕ)) : Type 0 where
  pub opening : Token
  pub inside : List Token
  pub closing : Token
  pub parts : tokens ≡ number ∷ opening ∷ inside ++ closing ∷ []
  pub is_number : number.kind ≡ kind.Number
  pub opens : opening.kind ≡ kind.Opening
  pub are_names : AreNames inside names
  pub closes : closing.kind ≡ kind.Closing

-- the keyword of a method
abbrev pub keyword : Method → Kind
keyword method.First = kind.First
keyword method.Any = kind.Any

-- a keyword, a number, and names in parentheses
pub record AreChosen (tokens : List Token) (m : Method) (number : Token) (names : List (List ℕ)) : Type 0 where
  pub chosen : Token
  pub others : List Token
  pub parts : tokens ≡ chosen ∷ others
  pub chooses : chosen.kind ≡ keyword m
  pub are_counted : AreCounted others number names

-- The tokens say this method, number and names: nothing, names, or names with their number, and its method
-- where that is said. Without a method it is FIRST.
abbrev pub Says : List Token → Method → Option Token → List (List ℕ) → Type 0
Says tokens m None names = (m ≡ method.First) × (((tokens ≡ []) × (names ≡ [])) ⊎ AreNames tokens names)
Says tokens m (Some number) names = ((m ≡ method.First) × AreCounted tokens number names) ⊎ AreChosen tokens m number names

-- the tokens are in the grammar
abbrev pub IsSaid : List Token → Type 0
IsSaid tokens = (m : Method) × (number : Option Token) × (names : List (List ℕ)) × Says tokens m number names

-- the number that is said, or 1 without one; 0 of the list without names
abbrev pub value_of : Option Token → List (List ℕ) → ℕ
value_of (Some number) names = digits_value 10 number.text
value_of None [] = 0
value_of None names = 1

-- the text says this, whatever the number and the length
pub record Spells (text : List ℕ) (list : Listing) : Type 0 where
  pub tokens : List Token
  pub number : Option Token
  pub reads : ReadsListTokens 0 text tokens
  pub says : Says tokens list.method number list.names
  pub value : list.number ≡ value_of number list.names

-- the text is accepted, as this list
pub record SaysList (text : List ℕ) (list : Listing) : Type 0 where
  pub spells : Spells text list
  pub is_listing : IsListing list

-- ---- refusals

-- where the token at this index stands, or the text's length after the last
abbrev pub place_at : List Token → ℕ → ℕ → ℕ
place_at [] i end = end
place_at (token ∷ tokens) zero end = token.place
place_at (token ∷ tokens) (suc i) end = place_at tokens i end

-- the token at this index is quotes that do not end
abbrev pub IsOpenAt : List Token → ℕ → Type 0
IsOpenAt [] i = ⊥
IsOpenAt (token ∷ tokens) zero = token.kind ≡ kind.Unclosed
IsOpenAt (token ∷ tokens) (suc i) = IsOpenAt tokens i

-- the text leaves the grammar at the token with this index
pub record Leaves (text : List ℕ) (at index : ℕ) (tokens : List Token) : Type 0 where
  pub reads : ReadsListTokens 0 text tokens
  pub stops : StopsAt IsSaid tokens index
  pub place : at ≡ place_at tokens index (length text)

-- the text says a list with this number at this place
pub record SaysNumber (text : List ℕ) (at n : ℕ) : Type 0 where
  pub tokens : List Token
  pub m : Method
  pub number : Token
  pub names : List (List ℕ)
  pub reads : ReadsListTokens 0 text tokens
  pub says : Says tokens m (Some number) names
  pub place : at ≡ number.place
  pub value : n ≡ digits_value 10 number.text

-- the text says a list whose number may be demanded, and whose spelling has this length
pub record SaysLength (text : List ℕ) (n : ℕ) : Type 0 where
  pub list : Listing
  pub spells : Spells text list
  pub demands : Demands list.names list.method list.number
  pub size : n ≡ length (list_spelling list)

-- the cause of each refusal
abbrev pub IsListFault : List ℕ → NamesFault → Type 0
IsListFault text (fault.Syntax place) = (index : ℕ) × (tokens : List Token) × Leaves text place index tokens × ¬ IsOpenAt tokens index
IsListFault text (fault.OpenQuote place) = (index : ℕ) × (tokens : List Token) × Leaves text place index tokens × IsOpenAt tokens index
IsListFault text (fault.Zero place) = SaysNumber text place 0
IsListFault text (fault.TooLarge place) = (value : ℕ) × SaysNumber text place value × (NUMBER_LIMIT < value)
IsListFault text (fault.TooLong have) = (size : ℕ) × SaysLength text size × (SPELLING_LIMIT < size) × (have ≡ min size (2 ^ 64 - 1))
IsListFault text fault.Memory = Unit {0}
