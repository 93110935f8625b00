-- The tokens of a standby list's text: what each byte is, and what the lexer's tokens are to a list.
use Rattle.std.specs.Prelude.{ℕ, Bool, ◌&&◌, ◌||◌, nat_lt, ◌==◌, if◌then◌else◌, List, [], map, codes, bytes_eq}
use Rattle.std.specs.Char.{to_ascii_lowercase, is_ascii_alphabetic, is_ascii_digit}
use Rattle.std.specs.List.{list_all}
use Rattle.repl_token.specs.declared.class.Class.{Class}
use Rattle.repl_token.specs.declared.class.Class.TheVariants as class
use Rattle.repl_token.specs.declared.token.Kind as lexer
use Rattle.repl_token.specs.declared.token.Kind.TheVariants as raw
use Rattle.repl_token.specs.Token.{RawToken, ReadsAs}
use Rattle.repl_names.specs.declared.token.Kind.{Kind}
use Rattle.repl_names.specs.declared.token.Kind.TheVariants as kind
use Rattle.repl_names.specs.declared.token.Token.{Token}

-- a space, a tab, a line feed, a vertical tab, a form feed or a carriage return
abbrev pub is_space : ℕ → Bool
is_space c = c == 32 || (nat_lt 8 c && nat_lt c 14)

-- a letter, `_`, or a byte that is not ASCII
abbrev pub is_letter : ℕ → Bool
is_letter c = is_ascii_alphabetic c || c == 95 || nat_lt 127 c

-- `*`, `,`, `(` or `)`
abbrev pub is_sign : ℕ → Bool
is_sign c = c == 42 || c == 44 || c == 40 || c == 41

-- `$` may stand in a word, but not first, and a name stands in double quotes
abbrev pub list_class : ℕ → Class
list_class c =
    if is_space c then class.Blank
    else if is_letter c then class.Letter
    else if is_ascii_digit c then class.Digit
    else if c == 36 then class.Inner
    else if c == 34 then class.Quote
    else if is_sign c then class.Alone
    else class.Nothing

-- `FIRST` and `ANY` in any case are keywords
abbrev pub word_kind : List ℕ → Kind
word_kind word =
    if bytes_eq (map to_ascii_lowercase word) (codes "first") then kind.First
    else if bytes_eq (map to_ascii_lowercase word) (codes "any") then kind.Any
    else kind.Word

abbrev pub sign_kind : ℕ → Kind
sign_kind c = if c == 42 then kind.Star else if c == 44 then kind.Comma else if c == 40 then kind.Opening else if c == 41 then kind.Closing
    else kind.Wrong

abbrev pub kind_of : lexer.Kind → List ℕ → Kind
kind_of raw.Word text = word_kind text
kind_of raw.Number text = kind.Number
kind_of (raw.Alone sign) text = sign_kind sign
kind_of (raw.Quoted quote) text = kind.Quoted
kind_of raw.Wrong text = kind.Wrong
kind_of (raw.Unclosed quote) text = kind.Unclosed

-- no byte is zero
abbrev pub holds_text : List ℕ → Bool
holds_text text = list_all (λ b. nat_lt 0 b && nat_lt b 256) text

-- a token of this kind with this text: `*` is the name that it says, and one that holds a zero byte is wrong
abbrev pub said : Kind → ℕ → List ℕ → Token
said kind.Star place text = record { kind = kind.Star; place = place; text = codes "*" }
said k place text = if holds_text text then record { kind = k; place = place; text = text }
    else record { kind = kind.Wrong; place = place; text = [] }

-- the token of a list that the lexer's token is
abbrev pub list_token : RawToken → Token
list_token t = said (kind_of t.kind t.text) t.place t.text

-- these bytes, which begin at this place, are these tokens and blanks
abbrev pub ReadsListTokens : ℕ → List ℕ → List Token → Type 0
ReadsListTokens at bytes tokens = ReadsAs list_class list_token at bytes tokens
