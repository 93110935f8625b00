-- What is answered of the log of a store as it stands on its disk.
use Rattle.std.specs.Prelude.{◌≡◌, ℕ, ◌-◌, ◌%◌, ◌≤◌, ◌⊎◌, List, ◌++◌, length, take, drop, Result, Ok, Err}
use Rattle.repl_disk.specs.State.{DiskState}
use Rattle.repl_lsn.specs.Path.{timeline_at}
use Rattle.repl_page.specs.declared.ident.Ident.{Ident}
use Rattle.repl_store.specs.Backing.{Backs, State, log}
use Rattle.repl_store.specs.Head.{Head}
use Rattle.repl_store.specs.declared.fault.StoreFault.{StoreFault}
use Rattle.repl_store.specs.declared.fault.StoreFault.TheVariants as store
use Rattle.repl_check.specs.declared.check.CheckFault.{CheckFault}
use Rattle.repl_check.specs.declared.check.CheckFault.TheVariants as fault
use Rattle.repl_check.specs.declared.flaw.Flaw.{Flaw}
use Rattle.repl_check.specs.declared.flaw.Flaw.TheVariants as flaw
use Rattle.repl_check.specs.declared.log_check.LogCheck.{LogCheck}
use Rattle.repl_check.specs.Fits.{Fits}
use Rattle.repl_check.specs.Flaws.{IsFlaw}
use Rattle.repl_check.specs.Machine.{HasJudged, check_identity, check_position}

-- ---- answers

-- what is answered of a log that has this flaw
abbrev pub told : Flaw → CheckFault
told flaw.Whole = fault.Whole
told flaw.Last = fault.Last
told (flaw.Bad at why) = fault.Bad at why

-- The answer as one to a read of the log, which is done also where the log has a flaw.
abbrev pub read_of : Result (Unit {0}) CheckFault → Result (Unit {0}) StoreFault
read_of (Ok x) = Ok x
read_of (Err fault.Whole) = Ok tt
read_of (Err fault.Last) = Ok tt
read_of (Err (fault.Bad at why)) = Ok tt
read_of (Err fault.Broken) = Err store.Broken
read_of (Err fault.DiskFault) = Err store.DiskFault
read_of (Err fault.Memory) = Err store.Memory

-- ---- the store's log

-- the identity of its log
abbrev pub log_identity : Head → Ident
log_identity head = record { sysid = head.control.sysid; magic = head.control.magic; size = head.size }

-- Its log up to the flushed end fits what its control says. A page's timeline is that of its first byte on the store's path.
abbrev pub LogFits : Head → State → Type 0
LogFits head s = Fits (log_identity head) (timeline_at head.path) head.control.floor s.durable.bytes head.control.whole head.control.prev

-- it has this flaw
abbrev pub LogHas : Head → State → Flaw → Type 0
LogHas head s flaw = IsFlaw (log_identity head) (timeline_at head.path) head.control.floor s.durable.bytes head.control.whole head.control.prev flaw

-- ---- while it is read

-- the check went on by some bytes, which are those of the log from its position on
pub record GoesThrough (old new : LogCheck) (head : Head) (disk : DiskState) (count : ℕ) : Type 0 where
  pub bytes : List ℕ
  pub counted : length bytes ≡ count
  pub judged : (floor : ℕ) (before : List ℕ) → HasJudged old (timeline_at head.path) floor before
      → HasJudged new (timeline_at head.path) floor (before ++ bytes)
  pub of_log : (s : State) → Backs disk head s → bytes ≡ take count (drop (old.at - head.control.floor) (log s))

-- the check has taken the log up to its position, which is the end or a page's start
pub record HasRead (disk : DiskState) (head : Head) (check : LogCheck) (end : ℕ) : Type 0 where
  pub taken : List ℕ
  pub judged : HasJudged check (timeline_at head.path) head.control.floor taken
  pub of_log : (s : State) → Backs disk head s → taken ≡ take (length taken) (log s)
  pub ident : check_identity check ≡ log_identity head
  pub within : check_position check ≤ end
  pub full : (check_position check ≡ end) ⊎ (check_position check % 8192 ≡ 0)
