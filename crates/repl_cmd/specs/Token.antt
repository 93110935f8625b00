-- The tokens of a command's text: what each byte is, and what the lexer's tokens are to a command.
use Rattle.std.specs.Prelude.{ℕ, Bool, ◌||◌, ◌==◌, if◌then◌else◌, List}
use Rattle.std.specs.Char.{is_ascii_alphanumeric}
use Rattle.std.specs.List.{list_any}
use Rattle.repl_token.specs.declared.class.Class.{Class}
use Rattle.repl_token.specs.declared.class.Class.TheVariants as class
use Rattle.repl_token.specs.declared.token.Kind as lexer
use Rattle.repl_token.specs.declared.token.Kind.TheVariants as raw
use Rattle.repl_token.specs.Token.{RawToken, ReadsAs}
use Rattle.repl_cmd.specs.declared.token.Kind.{Kind}
use Rattle.repl_cmd.specs.declared.token.Kind.TheVariants as kind

-- a token: its kind, its place, and what it says
pub record Lexeme : Type 0 where
  pub kind : Kind
  pub place : ℕ
  pub text : List ℕ

-- a space, a tab, a line feed or a carriage return
abbrev pub is_space : ℕ → Bool
is_space c = c == 32 || c == 9 || c == 10 || c == 13

-- a letter, a digit or an underscore
abbrev pub is_word_byte : ℕ → Bool
is_word_byte c = is_ascii_alphanumeric c || c == 95

-- one of these, or a slash
abbrev pub is_run_byte : ℕ → Bool
is_run_byte c = is_word_byte c || c == 47

-- a double or a single quote
abbrev pub is_quote : ℕ → Bool
is_quote c = c == 34 || c == 39

-- `(`, `)`, `,`, `;` or `=`
abbrev pub is_sign : ℕ → Bool
is_sign c = c == 40 || c == 41 || c == 44 || c == 59 || c == 61

-- a run of letters, digits, underscores and slashes is one word to the lexer, whichever of them is first
abbrev pub command_class : ℕ → Class
command_class c =
    if is_space c then class.Blank
    else if is_run_byte c then class.Letter
    else if is_quote c then class.Quote
    else if is_sign c then class.Alone
    else class.Nothing

-- a run with a slash in it is made for a position
abbrev pub run_kind : List ℕ → Kind
run_kind run = if list_any (λ c. c == 47) run then kind.Position else kind.Word

abbrev pub sign_kind : ℕ → Kind
sign_kind c =
    if c == 40 then kind.Opening
    else if c == 41 then kind.Closing
    else if c == 44 then kind.Comma
    else if c == 59 then kind.Semicolon
    else if c == 61 then kind.Equals
    else kind.Wrong

-- a name stands in double quotes, and a text in single ones
abbrev pub quoted_kind : ℕ → Kind
quoted_kind quote = if quote == 34 then kind.Name else kind.Text

abbrev pub kind_of : lexer.Kind → List ℕ → Kind
kind_of raw.Word text = run_kind text
kind_of raw.Number text = run_kind text
kind_of (raw.Alone sign) text = sign_kind sign
kind_of (raw.Quoted quote) text = quoted_kind quote
kind_of raw.Wrong text = kind.Wrong
kind_of (raw.Unclosed quote) text = kind.Wrong

-- the token of a command that the lexer's token is
abbrev pub command_token : RawToken → Lexeme
command_token t = record { kind = kind_of t.kind t.text; place = t.place; text = t.text }

-- these bytes, which begin at this place, are these tokens and blanks
abbrev pub ReadsLexemes : ℕ → List ℕ → List Lexeme → Type 0
ReadsLexemes at bytes tokens = ReadsAs command_class command_token at bytes tokens
