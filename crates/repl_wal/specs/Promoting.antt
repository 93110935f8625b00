-- A promotion (PostgreSQL 17 manual, section "Timelines"): a standby begins a timeline of its own after its last whole record.
use Rattle.std.specs.Prelude.{◌≡◌, ℕ, ◌+◌, ◌-◌, ◌^◌, ◌<◌, ◌≤◌, ◌⊎◌, max, true, [], ◌∷◌, ◌++◌, length, codes, Result}
use Rattle.repl_control.specs.declared.control.Role.TheVariants.{Primary, Standby}
use Rattle.repl_lsn.specs.declared.history.TheConstants.{HISTORY_LIMIT}
use Rattle.repl_lsn.specs.History.{Path, canonical}
use Rattle.repl_store.specs.Durable.{Durable}
use Rattle.repl_wal.specs.State.{EndsLast, LogState, flushed_log, heard_log, own_timeline, path_of, role_of, switched_log}
use Rattle.repl_wal.specs.Steps.{Step}
use Rattle.repl_wal.specs.Telling.{text_size}
use Rattle.repl_wal.specs.declared.fault.NodeFault.{NodeFault}
use Rattle.repl_wal.specs.declared.fault.NodeFault.TheVariants as fault

-- the greatest number of a timeline that was heard of; where the files are not known, what the disk says
abbrev pub HasHeard : LogState → ℕ → Type 0
HasHeard n known = (own_timeline n ≤ known) × (n.told ≡ true → known ≡ n.kept.durable.known)

abbrev pub next_number : ℕ → ℕ → ℕ
next_number at_least known = max at_least (known + 1)

-- the path that a promotion begins
abbrev pub child_of : Path → ℕ → ℕ → Path
child_of path tli switch = record { own = tli; parents = path.parents ++ record { tli = path.own; switch = switch; reason = codes "promoted" } ∷ [] }

-- A promotion of a standby is to begin this timeline at this position: at the greatest record end of all that is written. The
-- record that ends there started at `last`.
pub record Begins (n : LogState) (at_least tli switch last : ℕ) : Type 0 where
  pub standby : role_of n ≡ Standby
  pub known : ℕ
  pub heard : HasHeard n known
  pub left : known < 2 ^ 32 - 1
  pub number : tli ≡ next_number at_least known
  pub greatest : EndsLast n switch last

-- and the text of its history is not too long
pub record CanBegin (n : LogState) (at_least tli switch last : ℕ) : Type 0 where
  pub begins : Begins n at_least tli switch last
  pub short : length (canonical (child_of (path_of n) tli switch)) ≤ HISTORY_LIMIT

abbrev pub IsPromoteRefusal : LogState → ℕ → NodeFault → Type 0
IsPromoteRefusal n at_least fault.NotStandby = role_of n ≡ Primary
IsPromoteRefusal n at_least fault.NoNumberLeft = (role_of n ≡ Standby) × HasHeard n (2 ^ 32 - 1)
IsPromoteRefusal n at_least (fault.HistoryFull have) = (tli : ℕ) × (switch : ℕ) × (last : ℕ) × Begins n at_least tli switch last
    × (have ≡ text_size (child_of (path_of n) tli switch)) × (HISTORY_LIMIT < length (canonical (child_of (path_of n) tli switch)))
IsPromoteRefusal n at_least e = ⊥

-- the log after the flush that comes first, and after the whole promotion
abbrev pub flushed_first : LogState → ℕ → ℕ → LogState
flushed_first n switch last = flushed_log n (role_of n) switch last

abbrev pub promoted : LogState → ℕ → ℕ → ℕ → LogState
promoted n tli switch last = switched_log (flushed_first n switch last) (child_of (path_of n) tli switch) Primary switch last

-- it is a primary's on the new timeline, which begins after the last whole record; what was written after that goes
pub record IsPromoted (n : LogState) (at_least : ℕ) (answer : ℕ × ℕ) (m : LogState) : Type 0 where
  pub last : ℕ
  pub can : CanBegin n at_least answer.0 answer.1 last
  pub becomes : m ≡ promoted n answer.0 answer.1 last

-- nothing of it is done, or what is written is flushed, or the new timeline was heard of too
abbrev pub PartlyPromotes : LogState → ℕ → LogState → Type 0
PartlyPromotes n at_least m = (m ≡ n) ⊎ ((tli : ℕ) × (switch : ℕ) × (last : ℕ) × CanBegin n at_least tli switch last
    × ((m ≡ flushed_first n switch last) ⊎ (m ≡ heard_log (flushed_first n switch last) tli)))

abbrev pub Promotes : LogState → ℕ → Result (ℕ × ℕ) NodeFault → LogState → Type 0
Promotes n at_least result m = Step (IsPromoteRefusal n at_least) (role_of n ≡ Standby) (IsPromoted n at_least) (PartlyPromotes n at_least) n
    result m

-- the log from before, the flushed one, that with the new number heard of, or the promoted one
abbrev pub PromoteLeaves : LogState → ℕ → Durable → Type 0
PromoteLeaves n at_least d = (d ≡ n.kept.durable) ⊎ ((tli : ℕ) × (switch : ℕ) × (last : ℕ) × CanBegin n at_least tli switch last
    × ((d ≡ (flushed_first n switch last).kept.durable) ⊎ (d ≡ (heard_log (flushed_first n switch last) tli).kept.durable)
    ⊎ (d ≡ (promoted n tli switch last).kept.durable)))

-- why no child is made: of a path, where this is the greatest number that was heard of. Private clauses cite this.
abbrev pub IsChildless : Path → ℕ → ℕ → ℕ → NodeFault → Type 0
IsChildless path known at_least switch fault.NoNumberLeft = known ≡ 2 ^ 32 - 1
IsChildless path known at_least switch (fault.HistoryFull have) = (known < 2 ^ 32 - 1)
    × (have ≡ text_size (child_of path (next_number at_least known) switch))
    × (HISTORY_LIMIT < length (canonical (child_of path (next_number at_least known) switch)))
IsChildless path known at_least switch fault.Memory = Unit {0}
IsChildless path known at_least switch e = ⊥
