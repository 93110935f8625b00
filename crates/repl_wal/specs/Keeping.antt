-- How far the log is kept (PostgreSQL 17 manual, section "Replication Slots", and `wal_keep_size`).
use Rattle.std.specs.Prelude.{◌≡◌, ℕ, ◌-◌, ◌⊎◌, max, min, Option, Some, None, Result}
use Rattle.repl_control.specs.Control.{segment_start}
use Rattle.repl_store.specs.Durable.{Durable}
use Rattle.repl_wal.specs.State.{LogState, floor_of, flushed_end, raised_log, whole_end}
use Rattle.repl_wal.specs.Steps.{Never, OldOr, Step}
use Rattle.repl_wal.specs.declared.fault.NodeFault.{NodeFault}

-- not above the position that holds the log back, if there is one
abbrev pub held_back : Option ℕ → ℕ → ℕ
held_back None at = at
held_back (Some restart) at = min restart at

-- The floor after a trim: the start of the segment of the least of the position that holds the log back, the whole end, and
-- the flushed end less so many bytes, but not below the log's origin. It never falls.
abbrev pub trimmed_floor : LogState → Option ℕ → ℕ → ℕ
trimmed_floor n restart keep =
    max (floor_of n) (max n.size (segment_start n.size (held_back restart (min (whole_end n) (flushed_end n - keep)))))

abbrev pub IsTrimmed : LogState → Option ℕ → ℕ → ℕ → LogState → Type 0
IsTrimmed n restart keep floor m = (floor ≡ trimmed_floor n restart keep) × (m ≡ raised_log n floor)

abbrev pub PartlyTrims : LogState → Option ℕ → ℕ → LogState → Type 0
PartlyTrims n restart keep m = (m ≡ n) ⊎ (m ≡ raised_log n (trimmed_floor n restart keep))

abbrev pub Trims : LogState → Option ℕ → ℕ → Result ℕ NodeFault → LogState → Type 0
Trims n restart keep result m = Step Never (Unit {0}) (IsTrimmed n restart keep) (PartlyTrims n restart keep) n result m

abbrev pub TrimLeaves : LogState → Option ℕ → ℕ → Durable → Type 0
TrimLeaves n restart keep d = OldOr n (IsTrimmed n restart keep) d
