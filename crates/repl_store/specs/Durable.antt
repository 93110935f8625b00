-- What the files of a folder stand for: the control, the history of its timeline, and the segments from its floor to its
-- flushed end (PostgreSQL 17 manual, section "WAL Internals"). Nothing else that stands in them counts, but for which
-- histories there are.
use Rattle.std.specs.Prelude.{◌≡◌, ◌≢◌, ℕ, ◌+◌, ◌-◌, ◌*◌, ◌/◌, ◌%◌, ◌^◌, ◌<◌, ◌≤◌, ◌⊎◌, List, [], length, get_or, Some, IsSome, codes}
use Rattle.repl_control.specs.Control.{IsControl, FitsFields, control_bytes}
use Rattle.repl_control.specs.declared.control.Control.{Control}
use Rattle.repl_disk.specs.Folder.{Folder, content}
use Rattle.repl_lsn.specs.Between.{AreBetween}
use Rattle.repl_lsn.specs.History.{Path, SaysHistory}
use Rattle.repl_lsn.specs.Path.{timeline_at}
use Rattle.repl_lsn.specs.Segment.{segment_name, history_name}

-- ---- names

abbrev pub control_name : List ℕ
control_name = codes "control"

-- the control is written under this name first
abbrev pub control_aside : List ℕ
control_aside = codes "control.tmp"

-- The timeline in whose file a segment stands: the one that holds its last position, which is the newest of those that
-- begin before its end.
abbrev pub segment_timeline : ℕ → Path → ℕ → ℕ
segment_timeline size path segment = timeline_at path (segment * size + (size - 1))

abbrev pub segment_file : ℕ → Path → ℕ → List ℕ
segment_file size path segment = segment_name size (segment_timeline size path segment) segment

-- ---- bytes of the log

-- the bytes of the file in which a position stands
abbrev pub file_at : ℕ → Folder → Path → ℕ → List ℕ
file_at size folder path at = content (folder (segment_file size path (at / size)))

-- From the floor on the files carry these bytes, each at its position in the file of its segment. A file may go on after
-- them.
pub record Carries (size : ℕ) (folder : Folder) (path : Path) (floor : ℕ) (bytes : List ℕ) : Type 0 where
  pub there : (i : ℕ) → i < length bytes → (floor + i) % size < length (file_at size folder path (floor + i))
  pub same : (i : ℕ) → i < length bytes → get_or (file_at size folder path (floor + i)) ((floor + i) % size) 0 ≡ get_or bytes i 0

-- ---- the path

-- The path of a control: without parents on timeline 1, and else that of the timeline's history. Timelines were left
-- where whole records ended.
pub record HasPath (size : ℕ) (folder : Folder) (control : Control) (path : Path) : Type 0 where
  pub own : path.own ≡ control.tli
  pub history : ((control.tli ≡ 1) × (path.parents ≡ [])) ⊎ ((control.tli ≢ 1) × ((text : List ℕ)
      × (folder (history_name control.tli) ≡ Some text) × SaysHistory text path))
  pub between : AreBetween size control.whole path.parents

-- the greatest number of the own timeline and of those whose history is there
pub record IsKnown (folder : Folder) (own known : ℕ) : Type 0 where
  pub above : own ≤ known
  pub is : (known ≡ own) ⊎ ((known < 2 ^ 32) × IsSome (folder (history_name known)))
  pub all : (tli : ℕ) → 0 < tli → tli < 2 ^ 32 → IsSome (folder (history_name tli)) → tli ≤ known

-- ---- the whole

-- what a store keeps over a crash
pub record Durable : Type 0 where
  pub control : Control
  pub path : Path
  -- of the log, from the floor to the flushed end
  pub bytes : List ℕ
  -- the greatest number of a timeline that was heard of
  pub known : ℕ

-- the files stand for this, where segments have so many bytes
pub record StandsFor (size : ℕ) (folder : Folder) (d : Durable) : Type 0 where
  pub control : folder control_name ≡ Some (control_bytes d.control)
  pub fits : FitsFields d.control
  pub right : IsControl size d.control
  pub path : HasPath size folder d.control d.path
  pub counted : d.control.floor + length d.bytes ≡ d.control.flushed
  pub carries : Carries size folder d.path d.control.floor d.bytes
  pub known : IsKnown folder d.control.tli d.known
