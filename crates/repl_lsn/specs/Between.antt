-- Histories whose switch points lie within a log, from its origin to its end (PostgreSQL 17 manual, section "Timelines").
use Rattle.std.specs.Prelude.{◌≡◌, ℕ, ◌+◌, ◌≤◌, ◌⊎◌, List, ◌∷◌, ◌++◌, length, All}
use Rattle.repl_lsn.specs.declared.history.Part.{Part}
use Rattle.repl_lsn.specs.declared.fault.HistoryFault.{HistoryFault}
use Rattle.repl_lsn.specs.declared.fault.HistoryFault.TheVariants as fault
use Rattle.repl_lsn.specs.History.{Path, AreLines, SayParts, SaysPart, SaysHistory, IsHistoryFault}

-- the switch point lies between these two, or is one of them
abbrev pub IsBetween : ℕ → ℕ → Part → Type 0
IsBetween least most p = (least ≤ p.switch) × (p.switch ≤ most)

abbrev pub AreBetween : ℕ → ℕ → List Part → Type 0
AreBetween least most parts = All (IsBetween least most) parts

-- the line with this number is the first of the text that says a part whose switch point lies outside
pub record LiesOutside (text : List ℕ) (least most at : ℕ) : Type 0 where
  pub before : List (List ℕ)
  pub line : List ℕ
  pub after : List (List ℕ)
  pub parts : List Part
  pub part : Part
  pub are : AreLines text (before ++ line ∷ after)
  pub say : SayParts before parts
  pub between : AreBetween least most parts
  pub says : SaysPart line part
  pub outside : ¬ IsBetween least most part
  pub place : at ≡ length before + 1

-- the text says a history, and the fault is the first line whose switch point lies outside
abbrev pub IsOutsideFault : ℕ → List ℕ → ℕ → ℕ → HistoryFault → Type 0
IsOutsideFault own text least most f = (path : Path) × (at : ℕ) × (path.own ≡ own) × SaysHistory text path × LiesOutside text least most at
    × (f ≡ fault.NotSwitch at)

-- What is wrong with the history of such a log: a fault of the text, and only where it has none, that line.
abbrev pub IsFaultBetween : ℕ → List ℕ → ℕ → ℕ → HistoryFault → Type 0
IsFaultBetween own text least most f = IsHistoryFault own text f ⊎ IsOutsideFault own text least most f
