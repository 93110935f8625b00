-- Following a timeline that another node began (PostgreSQL 17 manual, section "Timelines"): the log goes over to a child of its
-- path where its own whole records end, and nowhere else.
use Rattle.std.specs.Prelude.{◌≡◌, ◌≢◌, ℕ, ◌<◌, ◌≤◌, ◌⊎◌, List, [], ◌∷◌, ◌++◌, length, take, drop, Result}
use Rattle.repl_control.specs.declared.control.Role.TheVariants.{Primary, Standby}
use Rattle.repl_lsn.specs.declared.history.Part.{Part}
use Rattle.repl_lsn.specs.declared.history.TheConstants.{HISTORY_LIMIT}
use Rattle.repl_lsn.specs.History.{Path, canonical, last_switch}
use Rattle.repl_lsn.specs.Path.{step, steps}
use Rattle.repl_store.specs.Durable.{Durable}
use Rattle.repl_wal.specs.State.{LogState, flushed_end, heard_log, last_start, path_of, role_of, switched_log, whole_end}
use Rattle.repl_wal.specs.Steps.{Step}
use Rattle.repl_wal.specs.Telling.{text_size}
use Rattle.repl_wal.specs.declared.fault.NodeFault.{NodeFault}
use Rattle.repl_wal.specs.declared.fault.NodeFault.TheVariants as fault

-- ---- a child of the path

-- the last parent is the own timeline, and there is one parent more
pub record IsOneMore (path child : Path) : Type 0 where
  pub front : List Part
  pub last : Part
  pub parts : child.parents ≡ front ++ last ∷ []
  pub own : last.tli ≡ path.own
  pub count : length front ≡ length path.parents

-- the two lists of parents differ first at this index, whatever the reasons
pub record DifferFirst (path child : Path) (at : ℕ) (own theirs : Part) : Type 0 where
  pub rest : List Part
  pub more : List Part
  pub mine : drop at path.parents ≡ own ∷ rest
  pub its : drop at child.parents ≡ theirs ∷ more
  pub same : take at (steps path) ≡ take at (steps child)
  pub differ : step own ≢ step theirs

-- the child leaves the path after its own timeline
abbrev pub Leaves : Path → Path → Type 0
Leaves path child = steps child ≡ steps path ++ record { tli = path.own; switch = last_switch child.parents } ∷ []

-- why a history is none of a child, or memory was wanting for the parents that are told. Private clauses cite this.
abbrev pub IsNoChild : Path → Path → NodeFault → Type 0
IsNoChild path child (fault.NotChild own) = (own ≡ path.own) × ¬ IsOneMore path child
IsNoChild path child (fault.ParentDiffers at own theirs) = IsOneMore path child × DifferFirst path child at own theirs
IsNoChild path child fault.Memory = Unit {0}
IsNoChild path child e = ⊥

-- ---- follow

abbrev pub IsFollowRefusal : LogState → Path → NodeFault → Type 0
IsFollowRefusal n child fault.NotStandby = role_of n ≡ Primary
IsFollowRefusal n child (fault.NotChild own) = (role_of n ≡ Standby) × (own ≡ (path_of n).own) × ¬ IsOneMore (path_of n) child
IsFollowRefusal n child (fault.ParentDiffers at own theirs) = (role_of n ≡ Standby) × IsOneMore (path_of n) child
    × DifferFirst (path_of n) child at own theirs
IsFollowRefusal n child (fault.ForkedBefore whole switch) = (role_of n ≡ Standby) × Leaves (path_of n) child × (whole ≡ whole_end n)
    × (switch ≡ last_switch child.parents) × (switch < whole)
IsFollowRefusal n child (fault.NotThereYet flushed switch) = (role_of n ≡ Standby) × Leaves (path_of n) child × (flushed ≡ flushed_end n)
    × (switch ≡ last_switch child.parents) × (whole_end n < switch)
IsFollowRefusal n child (fault.HistoryFull have) = (role_of n ≡ Standby) × Leaves (path_of n) child
    × (last_switch child.parents ≡ whole_end n) × (have ≡ text_size child) × (HISTORY_LIMIT < length (canonical child))
IsFollowRefusal n child e = ⊥

-- the same, or memory was wanting. Private clauses cite this.
abbrev pub IsUnfollowed : LogState → Path → NodeFault → Type 0
IsUnfollowed n child fault.Memory = Unit {0}
IsUnfollowed n child e = IsFollowRefusal n child e

pub record CanFollow (n : LogState) (child : Path) : Type 0 where
  pub standby : role_of n ≡ Standby
  pub leaves : Leaves (path_of n) child
  pub at_whole : last_switch child.parents ≡ whole_end n
  pub short : length (canonical child) ≤ HISTORY_LIMIT

-- the log goes on with the child; what was written or flushed past the switch point, where whole records end, goes
abbrev pub followed : LogState → Path → LogState
followed n child = switched_log n child (role_of n) (whole_end n) (last_start n)

abbrev pub IsFollowed : LogState → Path → Unit {0} → LogState → Type 0
IsFollowed n child done m = m ≡ followed n child

-- for want of memory the child's number may be heard of, and no more
abbrev pub PartlyFollows : LogState → Path → LogState → Type 0
PartlyFollows n child m = (m ≡ n) ⊎ (CanFollow n child × (m ≡ heard_log n child.own))

abbrev pub Follows : LogState → Path → Result (Unit {0}) NodeFault → LogState → Type 0
Follows n child result m = Step (IsFollowRefusal n child) (CanFollow n child) (IsFollowed n child) (PartlyFollows n child) n result m

-- the log from before, or, where nothing refuses, that with the child's number heard of, or the new one
abbrev pub FollowLeaves : LogState → Path → Durable → Type 0
FollowLeaves n child d = (d ≡ n.kept.durable) ⊎ (CanFollow n child × ((d ≡ (heard_log n child.own).kept.durable)
    ⊎ (d ≡ (followed n child).kept.durable)))
