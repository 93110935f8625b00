-- What bytes are to a lexer.
use Rattle.std.specs.Prelude.{Bool, true, false}
use Rattle.repl_token.specs.declared.class.Class.{Class}
use Rattle.repl_token.specs.declared.class.Class.TheVariants as class

-- it stands between tokens
abbrev pub is_blank : Class → Bool
is_blank class.Blank = true
is_blank _ = false

-- it goes on with a number
abbrev pub is_digit : Class → Bool
is_digit class.Digit = true
is_digit _ = false

-- it goes on with a word
abbrev pub is_inside : Class → Bool
is_inside class.Letter = true
is_inside class.Digit = true
is_inside class.Inner = true
is_inside _ = false

-- no token begins with it, and it is no blank
abbrev pub begins_nothing : Class → Bool
begins_nothing class.Inner = true
begins_nothing class.Nothing = true
begins_nothing _ = false
