-- Histories of timelines and their texts (PostgreSQL 17 manual, section "Timelines"): the timelines before a timeline,
-- each with the position at which it was left.
use Rattle.std.specs.Prelude.{◌≡◌, ◌≢◌, ℕ, ◌+◌, ◌^◌, ◌<◌, ◌≤◌, ◌⊎◌, true, List, [], ◌∷◌, ◌++◌, length, flat_map, All, decimal}
use Rattle.std.specs.Char.{is_ascii_digit}
use Rattle.std.specs.Str.Parse.{digits_value}
use Rattle.repl_lsn.specs.Line.{is_blank, AreBlank, IsLine}
use Rattle.repl_lsn.specs.Position.{Spells, position_text}
use Rattle.repl_lsn.specs.declared.history.Part.{Part}
use Rattle.repl_lsn.specs.declared.history.TheConstants.{HISTORY_LIMIT}
use Rattle.repl_lsn.specs.declared.fault.HistoryFault.{HistoryFault}
use Rattle.repl_lsn.specs.declared.fault.HistoryFault.TheVariants as fault

-- a timeline, and those before it
pub record Path : Type 0 where
  pub own : ℕ
  pub parents : List Part

-- ---- what is a history

-- numbers rise and stay below the own one, and switch points do not fall
abbrev pub InOrder : ℕ → List Part → Type 0
InOrder own [] = Unit {0}
InOrder own (p ∷ []) = p.tli < own
InOrder own (p ∷ q ∷ ps) = (p.tli < q.tli) × (p.switch ≤ q.switch) × InOrder own (q ∷ ps)

abbrev pub IsPath : Path → Type 0
IsPath path = InOrder path.own path.parents

-- ---- the canonical text

-- the number, a tab, the position, a tab, the reason, a line feed
abbrev pub line_text : Part → List ℕ
line_text p = decimal p.tli ++ 9 ∷ position_text p.switch ++ 9 ∷ p.reason ++ 10 ∷ []

abbrev pub canonical : Path → List ℕ
canonical path = flat_map line_text path.parents

-- ---- what a text says

-- the text is these lines, each ended by a line feed, which the last may lack
abbrev pub ended : List ℕ → List ℕ
ended line = line ++ 10 ∷ []

pub record AreLines (text : List ℕ) (lines : List (List ℕ)) : Type 0 where
  pub single : All (λ line. All (λ c. c ≢ 10) line) lines
  pub parts : (text ≡ flat_map ended lines)
      ⊎ ((front : List (List ℕ)) × (last : List ℕ) × (lines ≡ front ++ last ∷ []) × (0 < length last)
      × (text ≡ flat_map ended front ++ last))

-- a blank line, or one that begins with `#`
abbrev pub IsIgnored : List ℕ → Type 0
IsIgnored line = AreBlank line ⊎ ((lead : List ℕ) × (rest : List ℕ) × AreBlank lead × (line ≡ lead ++ 35 ∷ rest))

-- the bytes end there, or go on with a blank
abbrev pub IsApart : List ℕ → Type 0
IsApart [] = Unit {0}
IsApart (c ∷ cs) = is_blank c ≡ true

-- after blanks the line has this number of a timeline, and these bytes are after it
pub record HasNumber (line : List ℕ) (n : ℕ) (past : List ℕ) : Type 0 where
  pub lead : List ℕ
  pub number : List ℕ
  pub parts : line ≡ lead ++ number ++ past
  pub blank : AreBlank lead
  pub digits : All (λ c. is_ascii_digit c ≡ true) number
  pub some : 0 < length number
  pub value : n ≡ digits_value 10 number
  pub in_range : (0 < n) × (n < 2 ^ 32)
  pub apart : IsApart past

-- after blanks, of which there are some, these bytes have this position, and those are after it
pub record HasSwitch (bytes : List ℕ) (switch : ℕ) (past : List ℕ) : Type 0 where
  pub gap : List ℕ
  pub position : List ℕ
  pub parts : bytes ≡ gap ++ position ++ past
  pub blank : AreBlank gap
  pub some : 0 < length gap
  pub spelled : Spells position switch
  pub apart : IsApart past

-- what is left without the blanks at its ends
pub record IsReason (bytes reason : List ℕ) : Type 0 where
  pub front : List ℕ
  pub back : List ℕ
  pub parts : bytes ≡ front ++ reason ++ back
  pub blank : AreBlank front × AreBlank back
  pub line : IsLine reason

-- the line says the part
pub record SaysPart (line : List ℕ) (p : Part) : Type 0 where
  pub past : List ℕ
  pub rest : List ℕ
  pub number : HasNumber line p.tli past
  pub switch : HasSwitch past p.switch rest
  pub reason : IsReason rest p.reason

-- the lines say the parts, in order
abbrev pub SayParts : List (List ℕ) → List Part → Type 0
SayParts [] parts = parts ≡ []
SayParts (line ∷ lines) parts = (IsIgnored line × SayParts lines parts) ⊎ ((p : Part) × (others : List Part) × (parts ≡ p ∷ others)
    × SaysPart line p × SayParts lines others)

-- the text says the history
pub record SaysPath (text : List ℕ) (path : Path) : Type 0 where
  pub lines : List (List ℕ)
  pub are : AreLines text lines
  pub say : SayParts lines path.parents

-- the text is accepted, as this history
pub record SaysHistory (text : List ℕ) (path : Path) : Type 0 where
  pub short : length text ≤ HISTORY_LIMIT
  pub says : SaysPath text path
  pub is_path : IsPath path

-- ---- refusals

-- the last of these parts has the number, or a lesser one
abbrev pub last_number : List Part → ℕ
last_number [] = 0
last_number (p ∷ []) = p.tli
last_number (p ∷ q ∷ ps) = last_number (q ∷ ps)

abbrev pub last_switch : List Part → ℕ
last_switch [] = 0
last_switch (p ∷ []) = p.switch
last_switch (p ∷ q ∷ ps) = last_switch (q ∷ ps)

-- the line is wrong after lines that say these parts, and this is the first that is wrong with it
abbrev pub IsLineFault : ℕ → List Part → List ℕ → ℕ → HistoryFault → Type 0
IsLineFault own before line at (fault.NotNumber place) = (place ≡ at) × ¬ IsIgnored line
    × ((n : ℕ) (past : List ℕ) → ¬ HasNumber line n past)
IsLineFault own before line at (fault.NotSwitch place) = (place ≡ at) × ((n : ℕ) × (past : List ℕ) × HasNumber line n past)
    × ((p : Part) → ¬ SaysPart line p)
IsLineFault own before line at (fault.NotIncreasing place) = (place ≡ at) × ((p : Part) × SaysPart line p × (p.tli ≤ last_number before))
IsLineFault own before line at (fault.NotBelowOwn place) = (place ≡ at) × ((p : Part) × SaysPart line p × (last_number before < p.tli)
    × (own ≤ p.tli))
IsLineFault own before line at (fault.SwitchFalls place) = (place ≡ at) × ((p : Part) × SaysPart line p × (last_number before < p.tli)
    × (p.tli < own) × (p.switch < last_switch before))
IsLineFault own before line at (fault.TooLong have) = ⊥
IsLineFault own before line at fault.Memory = ⊥

-- up to a line the text says the beginning of a history, and that line is wrong
pub record BreaksAt (own : ℕ) (text : List ℕ) (f : HistoryFault) : Type 0 where
  pub before : List (List ℕ)
  pub line : List ℕ
  pub after : List (List ℕ)
  pub parts : List Part
  pub short : length text ≤ HISTORY_LIMIT
  pub are : AreLines text (before ++ line ∷ after)
  pub say : SayParts before parts
  pub in_order : InOrder own parts
  pub cause : IsLineFault own parts line (length before + 1) f

abbrev pub IsHistoryFault : ℕ → List ℕ → HistoryFault → Type 0
IsHistoryFault own text (fault.TooLong have) = (HISTORY_LIMIT < length text) × (have ≡ length text)
IsHistoryFault own text fault.Memory = Unit {0}
IsHistoryFault own text f = BreaksAt own text f
