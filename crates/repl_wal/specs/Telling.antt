-- The history that a node tells a peer (PostgreSQL 17 manual, section "Streaming Replication Protocol", TIMELINE_HISTORY).
use Rattle.std.specs.Prelude.{◌≡◌, ◌≢◌, ℕ, ◌-◌, ◌^◌, ◌<◌, ◌⊎◌, min, List, length}
use Rattle.repl_lsn.specs.History.{Path, canonical}
use Rattle.repl_lsn.specs.Path.{HasTimeline, IsUpTo}
use Rattle.repl_lsn.specs.declared.history.TheConstants.{HISTORY_LIMIT}
use Rattle.repl_wal.specs.declared.fault.NodeFault.{NodeFault}
use Rattle.repl_wal.specs.declared.fault.NodeFault.TheVariants as fault

-- how many bytes the text of a history has, as a number that fits
abbrev pub text_size : Path → ℕ
text_size path = min (length (canonical path)) (2 ^ 64 - 1)

-- the text is that of the path up to the timeline
abbrev pub IsHistoryOf : Path → ℕ → List ℕ → Type 0
IsHistoryOf path tli text = (history : Path) × IsUpTo path tli history × (text ≡ canonical history)

-- Timeline 1 has none, and neither has one that is not on the path. The text of a path is short where its files are canonical.
abbrev pub IsHistoryRefusal : Path → ℕ → NodeFault → Type 0
IsHistoryRefusal path tli (fault.NoHistory other) = (other ≡ tli) × ((tli ≡ 1) ⊎ ¬ HasTimeline path tli)
IsHistoryRefusal path tli (fault.HistoryFull have) = (tli ≢ 1) × ((history : Path) × IsUpTo path tli history × (have ≡ text_size history)
    × (HISTORY_LIMIT < length (canonical history)))
IsHistoryRefusal path tli fault.Memory = Unit {0}
IsHistoryRefusal path tli e = ⊥
