-- What calls of the node's log make of its role and of its ends.
use Rattle.std.proofs.Common.{◌≡◌, ℕ, ◌≤◌, List, Option, Result, Ok, Err, inl, inr, refl, sym, subst, arith}
use Rattle.repl_control.specs.declared.control.Role.TheVariants.{Standby}
use Rattle.repl_lsn.proofs.Order.{last_switch_push}
use Rattle.repl_lsn.specs.History.{Path, last_switch}
use Rattle.repl_record.proofs.LogEnds.{from_le}
use Rattle.repl_record.specs.declared.record.RecordIn.{RecordIn}
use Rattle.repl_wal.specs.Following.{CanFollow, PartlyFollows, followed}
use Rattle.repl_wal.specs.Keeping.{IsTrimmed, PartlyTrims}
use Rattle.repl_wal.specs.Promoting.{IsPromoted, PartlyPromotes, flushed_first, promoted}
use Rattle.repl_wal.specs.State.{EndsLast, LogState, appended_log, breaking, flushed_end, flushed_log, heard_log, ident_of, last_start, path_of, raised_log, role_of, tail_of, timeline_of, whole_end}
use Rattle.repl_wal.specs.Steps.{Step}
use Rattle.repl_wal.specs.Writing.{IsAppended, IsDemoted, IsFlushed, IsReceived}
use Rattle.repl_wal.specs.declared.fault.NodeFault.{NodeFault}
use Rattle.repl_wal.specs.declared.fault.NodeFault.TheVariants as fault

-- ---- how a call ends

-- What holds of the log, of the broken one, and of what a call leaves for want of memory, holds after each that is refused; and where
-- it holds of what the call makes, after each.
module _ {A : Type 0} (Refuses : NodeFault → Type 0) (Passes : Type 0) (Done : A → LogState → Type 0) (Partly : LogState → Type 0)
    (n m : LogState) (R : LogState → Type 0) (same : R n) (broke : R (breaking n)) (partly : Partly m → R m) where
  pub past_refusal : (e : NodeFault) → Step {A = A} Refuses Passes Done Partly n (Err e) m → R m
  past_refusal fault.Broken step = subst R (sym step.1) same
  past_refusal fault.DiskFault step = subst R (sym step.2) broke
  past_refusal fault.Memory step = partly step.1
  past_refusal e step = subst R (sym step.2) same

  pub past : (result : Result A NodeFault) → ((a : A) → Done a m → R m) → Step Refuses Passes Done Partly n result m → R m
  past (Ok a) done step = done a step.2
  past (Err e) done step = past_refusal e step

-- ---- most calls

-- the role stays, and the flushed end does not fall
pub record Rises (n m : LogState) : Type 0 where
  pub role : role_of m ≡ role_of n
  pub end : flushed_end n ≤ flushed_end m

pub rises_same : (n : LogState) → Rises n n
rises_same n = record { role = refl; end = omega arith }

pub rises_broken : (n : LogState) → Rises n (breaking n)
rises_broken n = record { role = refl; end = omega arith }

rises_to : (n k m : LogState) → m ≡ k → Rises n k → Rises n m
rises_to n k m is rises = subst (Rises n) (sym is) rises

pub rises_only : (n m : LogState) → m ≡ n → Rises n m
rises_only n m is = rises_to n n m is (rises_same n)

rises_appended : (n : LogState) (bytes : List ℕ) → Rises n (appended_log n bytes)
rises_appended n bytes = record { role = refl; end = omega arith }

rises_flushed : (n : LogState) (whole last : ℕ) → Rises n (flushed_log n (role_of n) whole last)
rises_flushed n whole last = record { role = refl; end = omega arith }

rises_heard : (n : LogState) (tli : ℕ) → Rises n (heard_log n tli)
rises_heard n tli = record { role = refl; end = omega arith }

rises_raised : (n : LogState) (floor : ℕ) → Rises n (raised_log n floor)
rises_raised n floor = record { role = refl; end = omega arith }

pub append_rises : (n : LogState) (item : RecordIn) (end : ℕ) (m : LogState) → IsAppended n item end m → Rises n m
append_rises n item end m done = rises_to n (appended_log n done.bytes) m done.becomes (rises_appended n done.bytes)

pub receive_rises : (n : LogState) (bytes : List ℕ) (end : ℕ) (m : LogState) → IsReceived n bytes end m → Rises n m
receive_rises n bytes end m done = rises_to n (appended_log n bytes) m done.1 (rises_appended n bytes)

pub flush_rises : (n : LogState) (end : ℕ) (m : LogState) → IsFlushed n end m → Rises n m
flush_rises n end m done =
    rises_to n (flushed_log n (role_of n) done.1.0 done.1.1) m done.1.3 (rises_flushed n done.1.0 done.1.1)

pub trim_rises : (n : LogState) (least : Option ℕ) (keep floor : ℕ) (m : LogState) → IsTrimmed n least keep floor m → Rises n m
trim_rises n least keep floor m done = rises_to n (raised_log n floor) m done.1 (rises_raised n floor)

pub trim_partly_rises : (n : LogState) (least : Option ℕ) (keep : ℕ) (m : LogState) → PartlyTrims n least keep m → Rises n m
trim_partly_rises n least keep m (inl is) = rises_only n m is
trim_partly_rises n least keep m (inr is) = subst (Rises n) (sym is) (record { role = refl; end = omega arith })

-- ---- another timeline

pub follow_partly_rises : (n : LogState) (child : Path) (m : LogState) → PartlyFollows n child m → Rises n m
follow_partly_rises n child m (inl is) = rises_only n m is
follow_partly_rises n child m (inr is) = rises_to n (heard_log n child.own) m is.1 (rises_heard n child.own)

pub promote_partly_rises : (n : LogState) (at_least : ℕ) (m : LogState) → PartlyPromotes n at_least m → Rises n m
promote_partly_rises n at_least m (inl is) = rises_only n m is
promote_partly_rises n at_least m (inr (tli, switch, last, can, inl is)) =
    rises_to n (flushed_first n switch last) m is (rises_flushed n switch last)
promote_partly_rises n at_least m (inr (tli, switch, last, can, inr is)) =
    rises_to n (heard_log (flushed_first n switch last) tli) m is (record { role = refl; end = omega arith })

-- a standby's log goes on from where it has whole records, or after that
pub record Switches (n m : LogState) : Type 0 where
  pub standby : role_of n ≡ Standby
  pub whole : whole_end n ≤ flushed_end m

pub follow_switches : (n : LogState) (child : Path) (m : LogState) → CanFollow n child → m ≡ followed n child → Switches n m
follow_switches n child m can is =
    let at : last_switch child.parents ≡ whole_end n = can.at_whole in
    subst (Switches n) (sym is) (record { standby = can.standby; whole = omega (arith, at) })

-- records that are counted from the whole end end after it
pub whole_rises : (n : LogState) (end last : ℕ) → EndsLast n end last → whole_end n ≤ end
whole_rises n end last greatest = from_le (ident_of n) (timeline_of n) (whole_end n) (last_start n) (tail_of n) end last greatest.is_end

pub promote_switches : (n : LogState) (at_least : ℕ) (answer : ℕ × ℕ) (m : LogState) → IsPromoted n at_least answer m → Switches n m
promote_switches n at_least answer m done =
    let begins = done.can.begins in
    let rises : whole_end n ≤ answer.1 = whole_rises n answer.1 done.last begins.greatest in
    let switch : flushed_end (promoted n answer.0 answer.1 done.last) ≡ answer.1 = last_switch_push (path_of n).parents _ in
    subst (Switches n) (sym done.becomes) (record { standby = begins.standby; whole = omega (arith, rises, switch) })

-- ---- a standby again

pub demote_rises : (n : LogState) (m : LogState) → IsDemoted n tt m → flushed_end n ≤ flushed_end m
demote_rises n m done =
    let rises : flushed_end n ≤ flushed_end (flushed_log n Standby done.0 done.1) = omega arith in
    subst (λ (k : LogState). flushed_end n ≤ flushed_end k) (sym done.3) rises
