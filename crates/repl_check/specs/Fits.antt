-- When the log of a store fits what the store says of it: from the floor on it is the rest of an earlier record, if one
-- goes on over the floor, and then records, of which the last whole one ends and starts where the store says (after
-- PostgreSQL 17 manual, section "WAL Internals"). The log begins at its origin, with segment 1, and above that the floor is
-- the start of a later segment, before which all is gone.
use Rattle.std.specs.Prelude.{◌≡◌, ◌≢◌, ℕ, ◌-◌, ◌<◌, ◌==◌, ◌⊎◌, List, length, drop, min, nat_lt, if◌then◌else◌}
use Rattle.repl_page.specs.declared.ident.Ident.{Ident}
use Rattle.repl_page.specs.Header.{field}
use Rattle.repl_page.specs.Page.{header_length}
use Rattle.repl_record.specs.declared.answer.WalkReason.{WalkReason}
use Rattle.repl_record.specs.declared.answer.WalkReason.TheVariants as why
use Rattle.repl_record.specs.Log.{IsPrefixOfRecords, IsWholeEnd}
use Rattle.repl_walk.specs.declared.rest.TheConstants.{REST_LIMIT}
use Rattle.repl_walk.specs.Faults.{IsFaultPast}
use Rattle.repl_walk.specs.Rest.{IsRestBegun, IsRestFault, IsRestWhole}

-- ---- where records begin

-- nothing of the log is gone
abbrev pub IsOrigin : Ident → ℕ → Type 0
IsOrigin ident floor = floor ≡ ident.size

-- With how many bytes of an earlier page's record the log begins: none at the origin, and else as many as the header of
-- its first page says, once that is there.
abbrev pub rest_of : Ident → ℕ → List ℕ → ℕ
rest_of ident floor log = if floor == ident.size then 0 else (if nat_lt (length log) (header_length ident.size floor) then 0 else min
    (field 16 4 log) REST_LIMIT)

-- After so many bytes of an earlier record the image of the first record begins here.
abbrev pub IsFirst : Ident → (ℕ → ℕ) → ℕ → ℕ → List ℕ → ℕ → Type 0
IsFirst ident timeline rest floor log start = ((rest ≡ 0) × (start ≡ floor)) ⊎ ((0 < rest) × IsRestWhole ident timeline rest floor log start)

-- where the record before the first starts: at the origin there is none, which is said by 0, and above it it is not known
abbrev pub IsBefore : Ident → ℕ → ℕ → Type 0
IsBefore ident floor prev = IsOrigin ident floor → prev ≡ 0

-- ---- what stands in the log

-- After the rest the log is records, and then the beginning of one: the first record's image begins at `start`, and the
-- last whole record ends at `end` and starts at `last`. Without a whole record both ends are one.
pub record HasRecords (ident : Ident) (timeline : ℕ → ℕ) (rest floor : ℕ) (log : List ℕ) (start end last : ℕ) : Type 0 where
  pub first : IsFirst ident timeline rest floor log start
  pub prev : ℕ
  pub before : IsBefore ident floor prev
  pub records : IsPrefixOfRecords ident timeline start prev (drop (start - floor) log)
  pub whole : IsWholeEnd ident timeline start prev (drop (start - floor) log) end last

-- After the rest the log is records up to `end`, and what stands after them is none. Where the first record says that the
-- one before it starts is no fault above the origin.
pub record HasBadRecord (ident : Ident) (timeline : ℕ → ℕ) (rest floor : ℕ) (log : List ℕ) (start end last at : ℕ) (reason : WalkReason)
    : Type 0 where
  pub first : IsFirst ident timeline rest floor log start
  pub prev : ℕ
  pub before : IsBefore ident floor prev
  pub fault : IsFaultPast ident timeline start prev (drop (start - floor) log) end last at reason
  pub unlike : ¬ IsOrigin ident floor → end ≡ start → (found expected : ℕ) → reason ≢ why.Prev found expected

-- no record begins in the log, and nothing is wrong
abbrev pub IsUnbegun : Ident → (ℕ → ℕ) → ℕ → ℕ → List ℕ → Type 0
IsUnbegun ident timeline rest floor log = (0 < rest) × IsRestBegun ident timeline rest floor log

-- the log does not begin with the rest of a record, though its first page says so
abbrev pub HasBadRest : Ident → (ℕ → ℕ) → ℕ → ℕ → List ℕ → ℕ → WalkReason → Type 0
HasBadRest ident timeline rest floor log at reason = (0 < rest) × IsRestFault ident timeline rest floor log at reason

-- ---- what the store says

-- The store says right where the last whole record starts. Above the origin that is judged only where a record ends in the
-- log, since an earlier one is gone.
abbrev pub IsStoredRight : Ident → ℕ → ℕ → ℕ → ℕ → ℕ → Type 0
IsStoredRight ident floor start end last stored = (start < end) ⊎ IsOrigin ident floor → stored ≡ last

-- the log is records, of which the last whole one ends at `whole` and starts at `stored`
pub record Fits (ident : Ident) (timeline : ℕ → ℕ) (floor : ℕ) (log : List ℕ) (whole stored : ℕ) : Type 0 where
  pub start : ℕ
  pub last : ℕ
  pub records : HasRecords ident timeline (rest_of ident floor log) floor log start whole last
  pub stored_right : IsStoredRight ident floor start whole last stored
