-- What `history` prints: the canonical text of a timeline's history.
use Rattle.std.specs.Prelude.{◌≡◌, ℕ, ◌<◌, ◌≤◌, ◌⊎◌, List, length}
use Rattle.repl_io.specs.Source.{SourceState}
use Rattle.repl_io.specs.Sink.{SinkState}
use Rattle.repl_lsn.specs.declared.fault.HistoryFault.{HistoryFault}
use Rattle.repl_lsn.specs.declared.fault.HistoryFault.TheVariants as fault
use Rattle.repl_lsn.specs.declared.history.TheConstants.{HISTORY_LIMIT}
use Rattle.repl_lsn.specs.History.{Path, SaysHistory, IsHistoryFault, canonical}
use Rattle.repl_filter.specs.declared.conversion.Converted.{Converted}
use Rattle.repl_filter.specs.declared.gather.TheConstants.{GATHER_LIMIT}
use Rattle.repl_filter.specs.Converting.{Conversion}

-- the text says this history of the timeline
abbrev pub IsOf : ℕ → List ℕ → Path → Type 0
IsOf timeline text path = (path.own ≡ timeline) × SaysHistory text path

-- the line of a fault, which is 0 where a text is too long
abbrev pub IsAtLine : HistoryFault → ℕ → Type 0
IsAtLine (fault.TooLong have) line = line ≡ 0
IsAtLine (fault.NotNumber at) line = line ≡ at
IsAtLine (fault.NotSwitch at) line = line ≡ at
IsAtLine (fault.NotIncreasing at) line = line ≡ at
IsAtLine (fault.NotBelowOwn at) line = line ≡ at
IsAtLine (fault.SwitchFalls at) line = line ≡ at
IsAtLine fault.Memory line = ⊥

-- the text is refused at this line, or says a history whose canonical text is too long
abbrev pub IsWrong : ℕ → List ℕ → ℕ → Type 0
IsWrong timeline text line =
    ((f : HistoryFault) × IsHistoryFault timeline text f × IsAtLine f line)
    ⊎ ((path : Path) × IsOf timeline text path × (HISTORY_LIMIT < length (canonical path)) × (line ≡ 0))

-- the text says this history of the timeline, whose canonical text is short enough
pub record IsPrintable (timeline : ℕ) (text : List ℕ) (path : Path) : Type 0 where
  pub of_timeline : IsOf timeline text path
  pub short : length (canonical path) ≤ HISTORY_LIMIT

-- What `history` does for this timeline: it reads its input, and writes the canonical text of the history that it says; another
-- input is refused.
abbrev pub Historied : ℕ → Converted → SourceState → SourceState → SinkState → SinkState → Type 0
Historied timeline end r r' w w' = Conversion GATHER_LIMIT (IsPrintable timeline) canonical (IsWrong timeline) end r r' w w'
