-- Where records end in the log (after PostgreSQL 17 manual, section "WAL Internals").
use Rattle.std.specs.Prelude.{ℕ, ◌+◌, ◌-◌, ◌≤◌, List, length, take, drop}
use Rattle.repl_page.specs.declared.ident.Ident.{Ident}
use Rattle.repl_record.specs.declared.record.RecordIn.{RecordIn}
use Rattle.repl_record.specs.Record.{start_of, IsImage}
use Rattle.repl_record.specs.Judging.{IsBeginning}

-- In the log from a position on, after a record that starts at prev, a record ends at `end`, and it starts at `last`:
-- the position itself is one such end, and where one is and an image stands after it, so is the image's end.
pub data RecordEnd (ident : Ident) (timeline : ℕ → ℕ) (from prev : ℕ) (log : List ℕ) : ℕ → ℕ → Type 0 where
  origin : RecordEnd ident timeline from prev log from prev
  next : (end last : ℕ) (item : RecordIn) (n : ℕ) → RecordEnd ident timeline from prev log end last
      → (end - from) + n ≤ length log → IsImage ident timeline end last item (take n (drop (end - from) log))
      → RecordEnd ident timeline from prev log (end + n) (start_of ident.size end)

-- the greatest of them
pub record IsWholeEnd (ident : Ident) (timeline : ℕ → ℕ) (from prev : ℕ) (log : List ℕ) (end last : ℕ) : Type 0 where
  pub is_end : RecordEnd ident timeline from prev log end last
  pub greatest : (other start : ℕ) → RecordEnd ident timeline from prev log other start → other ≤ end

-- the log is records, and then the beginning of one
pub record IsPrefixOfRecords (ident : Ident) (timeline : ℕ → ℕ) (from prev : ℕ) (log : List ℕ) : Type 0 where
  pub end : ℕ
  pub last : ℕ
  pub records : RecordEnd ident timeline from prev log end last
  pub beginning : IsBeginning ident timeline end last (drop (end - from) log)
