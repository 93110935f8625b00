-- A node's write-ahead log (PostgreSQL 17 manual, chapter "Reliability and the Write-Ahead Log"): one list of bytes, from
-- the floor to the written end, on a path of timelines. Of these bytes some are flushed, and of those some are whole
-- records.
use Rattle.std.specs.Prelude.{◌≡◌, ℕ, ◌+◌, ◌-◌, ◌^◌, ◌≤◌, Bool, true, List, [], ◌++◌, length, take, drop}
use Rattle.repl_control.specs.Control.{FitsFields, IsControl}
use Rattle.repl_control.specs.declared.control.Role.{Role}
use Rattle.repl_control.specs.declared.control.Role.TheVariants.{Primary}
use Rattle.repl_lsn.specs.Between.{AreBetween}
use Rattle.repl_lsn.specs.History.{IsPath, Path}
use Rattle.repl_lsn.specs.Path.{timeline_at}
use Rattle.repl_lsn.specs.Segment.{IsSegSize}
use Rattle.repl_page.specs.declared.ident.Ident.{Ident}
use Rattle.repl_record.specs.Log.{IsPrefixOfRecords, IsWholeEnd, RecordEnd}
use Rattle.repl_store.specs.Backing.{State, appended, flushed, heard, log, raised, switched}
use Rattle.repl_store.specs.declared.store.StoreStatus.{StoreStatus}
use Rattle.repl_wal.specs.declared.wal.Identity.{Identity}

pub record LogState : Type 0 where
  -- how many bytes a segment has
  pub size : ℕ
  -- what a crash leaves, and the bytes that were written after it
  pub kept : State
  -- a call of the disk failed since the mount
  pub broken : Bool
  -- the disk tells its files, and they are known to be these
  pub told : Bool

-- ---- where things stand

abbrev pub role_of : LogState → Role
role_of n = n.kept.durable.control.role

abbrev pub path_of : LogState → Path
path_of n = n.kept.durable.path

abbrev pub own_timeline : LogState → ℕ
own_timeline n = n.kept.durable.control.tli

abbrev pub floor_of : LogState → ℕ
floor_of n = n.kept.durable.control.floor

abbrev pub flushed_end : LogState → ℕ
flushed_end n = n.kept.durable.control.flushed

abbrev pub written_end : LogState → ℕ
written_end n = n.kept.durable.control.flushed + length n.kept.unflushed

-- where the last whole record ends of those that are flushed, and where it starts
abbrev pub whole_end : LogState → ℕ
whole_end n = n.kept.durable.control.whole

abbrev pub last_start : LogState → ℕ
last_start n = n.kept.durable.control.prev

-- the log from the whole end to the written end
abbrev pub tail_of : LogState → List ℕ
tail_of n = drop (whole_end n - floor_of n) (log n.kept)

-- ---- records

abbrev pub ident_of : LogState → Ident
ident_of n = record { sysid = n.kept.durable.control.sysid; magic = n.kept.durable.control.magic; size = n.size }

-- on which timeline a page is that starts at a position
abbrev pub timeline_of : LogState → ℕ → ℕ
timeline_of n = timeline_at n.kept.durable.path

-- A record ends here and starts there. Record ends are counted from the whole end and the start that is kept beside it, so
-- that it does not matter what is gone below the floor.
abbrev pub EndsRecord : LogState → ℕ → ℕ → Type 0
EndsRecord n end last = RecordEnd (ident_of n) (timeline_of n) (whole_end n) (last_start n) (tail_of n) end last

-- the greatest record end in the log and in these bytes after it
abbrev pub EndsLast : LogState → ℕ → ℕ → Type 0
EndsLast n end last = IsWholeEnd (ident_of n) (timeline_of n) (whole_end n) (last_start n) (tail_of n) end last

-- with these bytes past its written end the log is still a prefix of records
abbrev pub AreRecordsOn : LogState → List ℕ → Type 0
AreRecordsOn n bytes = IsPrefixOfRecords (ident_of n) (timeline_of n) (whole_end n) (last_start n) (tail_of n ++ bytes)

-- ---- what holds of every log

pub record IsLog (n : LogState) : Type 0 where
  pub size : IsSegSize n.size
  pub right : IsControl n.size n.kept.durable.control
  pub fits : FitsFields n.kept.durable.control
  pub is_path : IsPath n.kept.durable.path
  pub own : n.kept.durable.path.own ≡ n.kept.durable.control.tli
  -- timelines were left where whole records ended
  pub between : AreBetween n.size (whole_end n) n.kept.durable.path.parents
  pub counted : floor_of n + length n.kept.durable.bytes ≡ flushed_end n
  pub limit : written_end n ≤ 2 ^ 63
  -- past the whole end no record ends that is flushed, and all that is written is a prefix of records
  pub unended : IsWholeEnd (ident_of n) (timeline_of n) (whole_end n) (last_start n) (take (flushed_end n - whole_end n) (tail_of n))
      (whole_end n) (last_start n)
  pub records : IsPrefixOfRecords (ident_of n) (timeline_of n) (whole_end n) (last_start n) (tail_of n)
  -- a primary writes whole records
  pub primary : role_of n ≡ Primary → (last : ℕ) × EndsRecord n (written_end n) last

-- ---- what calls make of it

abbrev pub having : LogState → State → LogState
having n kept = record n { kept = kept }

-- a call of the disk failed
abbrev pub breaking : LogState → LogState
breaking n = record n { broken = true }

abbrev pub appended_log : LogState → List ℕ → LogState
appended_log n bytes = having n (appended n.kept bytes)

-- all written bytes are flushed; whole records end here, and the last of them starts there
abbrev pub flushed_log : LogState → Role → ℕ → ℕ → LogState
flushed_log n role whole last = having n (flushed n.kept role whole last)

-- another timeline was heard of
abbrev pub heard_log : LogState → ℕ → LogState
heard_log n tli = having n (record (n.kept) { durable = heard n.kept.durable tli })

-- the log goes on with a child of its path from the switch point on
abbrev pub switched_log : LogState → Path → Role → ℕ → ℕ → LogState
switched_log n child role whole last = having n (record { durable = switched n.kept.durable child role whole last; unflushed = [] })

-- bytes below the floor are gone
abbrev pub raised_log : LogState → ℕ → LogState
raised_log n floor = having n (record (n.kept) { durable = raised n.kept.durable floor })

-- what a log tells of itself
abbrev pub status_of_log : LogState → StoreStatus
status_of_log n = record {
  sysid = n.kept.durable.control.sysid;
  role = role_of n;
  tli = n.kept.durable.control.tli;
  floor = floor_of n;
  whole = whole_end n;
  flushed = flushed_end n;
  written = written_end n;
  ident = ident_of n;
  prev = last_start n;
}

-- the part of it that peers are told
abbrev pub identity_in : StoreStatus → Identity
identity_in s = record {
  sysid = s.sysid;
  role = s.role;
  tli = s.tli;
  floor = s.floor;
  whole = s.whole;
  flushed = s.flushed;
  written = s.written;
}
