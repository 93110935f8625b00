-- What a walker stands for that has gone through the log from a position on: where records end in it.
use Rattle.std.specs.Prelude.{◌≡◌, ℕ, ◌-◌, ◌%◌, List, drop}
use Rattle.repl_record.specs.declared.answer.WalkReason.{WalkReason}
use Rattle.repl_record.specs.declared.walker.Walker.{Walker}
use Rattle.repl_record.specs.Log.{RecordEnd}
use Rattle.repl_record.specs.Walker.{Refuses, Stands, identity, last_end, last_start}
use Rattle.repl_walk.specs.Faults.{IsFaultPast}

-- The walker has gone through the log's bytes from a position on, after a record that starts at prev. They are records
-- up to the end that it keeps, and it stands after the bytes from there on.
pub record HasWalked (w : Walker) (timeline : ℕ → ℕ) (from prev : ℕ) (log : List ℕ) : Type 0 where
  pub aligned : from % 8 ≡ 0
  pub records : RecordEnd (identity w) timeline from prev log (last_end w) (last_start w)
  pub stands : Stands w timeline (last_end w) (last_start w) (drop (last_end w - from) log)

-- It met this fault in them, past the end that it keeps, and answers it from now on.
pub record HasRefused (w : Walker) (timeline : ℕ → ℕ) (from prev : ℕ) (log : List ℕ) (at : ℕ) (reason : WalkReason) : Type 0 where
  pub aligned : from % 8 ≡ 0
  pub past : IsFaultPast (identity w) timeline from prev log (last_end w) (last_start w) at reason
  pub refuses : Refuses w at reason
