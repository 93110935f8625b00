-- A log of which the beginning is gone: the first record that begins in it stands after some record, of which nothing is
-- known.
use Rattle.std.specs.Prelude.{◌≡◌, ◌≢◌, ℕ, List}
use Rattle.repl_page.specs.declared.ident.Ident.{Ident}
use Rattle.repl_record.specs.declared.answer.WalkReason.{WalkReason}
use Rattle.repl_record.specs.declared.answer.WalkReason.TheVariants as why
use Rattle.repl_record.specs.declared.walker.Walker.{Walker}
use Rattle.repl_record.specs.Log.{IsPrefixOfRecords}
use Rattle.repl_record.specs.Walker.{last_end}
use Rattle.repl_walk.specs.Walks.{HasRefused, HasWalked}

-- the log is a prefix of records after some record
pub record IsPrefixPastAny (ident : Ident) (timeline : ℕ → ℕ) (from : ℕ) (log : List ℕ) : Type 0 where
  pub prev : ℕ
  pub records : IsPrefixOfRecords ident timeline from prev log

-- the walker has gone through it after such a record
pub record HasWalkedPastAny (w : Walker) (timeline : ℕ → ℕ) (from : ℕ) (log : List ℕ) : Type 0 where
  pub prev : ℕ
  pub walked : HasWalked w timeline from prev log

-- It refuses the first fault of it after such a record. That the first record tells another start of the one before is
-- none.
pub record HasRefusedPastAny (w : Walker) (timeline : ℕ → ℕ) (from : ℕ) (log : List ℕ) (at : ℕ) (reason : WalkReason) : Type 0 where
  pub prev : ℕ
  pub refused : HasRefused w timeline from prev log at reason
  pub unlike : last_end w ≡ from → (found expected : ℕ) → reason ≢ why.Prev found expected

-- the fault is that the record does not follow the one before, and it tells where that starts
abbrev pub IsPrevFault : WalkReason → ℕ → Type 0
IsPrevFault reason found = (expected : ℕ) × (reason ≡ why.Prev found expected)
