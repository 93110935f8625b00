-- Where the log's records are wrong: past the last record end before it stands the first fault.
use Rattle.std.specs.Prelude.{ℕ, ◌-◌, List, drop}
use Rattle.repl_page.specs.declared.ident.Ident.{Ident}
use Rattle.repl_record.specs.declared.answer.WalkReason.{WalkReason}
use Rattle.repl_record.specs.Judging.{IsFirstFault}
use Rattle.repl_record.specs.Log.{RecordEnd}

-- The log from a position on, after a record that starts at prev, is records up to `end`, of which the last starts at
-- `last`, and what stands after them has this for its first fault.
pub record IsFaultPast (ident : Ident) (timeline : ℕ → ℕ) (from prev : ℕ) (log : List ℕ) (end last at : ℕ) (reason : WalkReason) : Type 0
  where
    pub records : RecordEnd ident timeline from prev log end last
    pub fault : IsFirstFault ident timeline end last (drop (end - from) log) at reason

-- the log has this fault
pub record HasFault (ident : Ident) (timeline : ℕ → ℕ) (from prev : ℕ) (log : List ℕ) (at : ℕ) (reason : WalkReason) : Type 0 where
  pub end : ℕ
  pub last : ℕ
  pub past : IsFaultPast ident timeline from prev log end last at reason
