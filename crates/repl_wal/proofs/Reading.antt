-- Reading leaves the log as it is, and lies within what is flushed.
use Rattle.std.proofs.Common.{◌≡◌, ℕ, ◌≤◌, None, List, [], ◌∷◌, ◌++◌, length, take, Ok, sym, ap, ◌∙◌, subst, inl, inr, arith, length-take}
use Rattle.std.proofs.lemmas.List.{take-append-le, take_all}
use Rattle.std.proofs.lemmas.List.Elements.{All-head, All-tail}
use Rattle.repl_control.specs.declared.control.Control.{Control}
use Rattle.repl_disk.specs.State.{DiskState}
use Rattle.repl_lsn.specs.Between.{AreBetween, IsBetween}
use Rattle.repl_lsn.specs.History.{Path}
use Rattle.repl_lsn.specs.declared.history.Part.{Part}
use Rattle.repl_record.specs.declared.walker.Walker.{Walker}
use Rattle.repl_store.specs.Backing.{Backs, Before, Breaks, LeavesOne, State, Comes as StoreComes}
use Rattle.repl_store.specs.Head.{Head, Held, IsAt, IsHead}
use Rattle.repl_wal.specs.Holding.{Comes, HeldLog, Holds, Runs, memory_of}
use Rattle.repl_wal.specs.Reading.{ReadsTo}
use Rattle.repl_wal.specs.State.{LogState, flushed_end, whole_end}
use Rattle.repl_wal.specs.Steps.{Old, Step}
use Rattle.repl_wal.specs.declared.fault.NodeFault.{NodeFault}
use Rattle.repl_wal.proofs.Ending.{ok_sound, running}
use Rattle.repl_wal.proofs.Running.{marks}

-- ---- where a timeline ends

pub between_at : (before : List Part) (p : Part) (after : List Part) (least most : ℕ) → AreBetween least most (before ++ p ∷ after)
    → IsBetween least most p
between_at [] p after least most are = All-head (IsBetween least most) p after are
between_at (b ∷ bs) p after least most are = between_at bs p after least most (All-tail (IsBetween least most) b (bs ++ p ∷ after) are)

pub reads_low : (head : Head) (w : Walker) (n : LogState) (tli end : ℕ) → IsHead head → Runs head w n → ReadsTo n tli end → end ≤ flushed_end n
reads_low head w n tli end is runs (inl own) = omega (arith, own.1)
reads_low head w n tli end is runs (inr left) =
    let m = marks head w n is runs in
    let whole : head.control.whole ≡ whole_end n = ap (λ (k : Control). k.whole) runs.control in
    let parents : head.path.parents ≡ left.0 ++ left.1 ∷ left.2 = ap (λ (p : Path). p.parents) runs.path ∙ left.3 in
    let low = between_at left.0 left.1 left.2 head.size head.control.whole (subst (AreBetween head.size head.control.whole) parents is.between) in
    omega (arith, low.1, whole, m.flushed, left.5)

-- ---- what is read

pub read_front : (from rest got : List ℕ) (count : ℕ) → got ≡ take count from → count ≤ length from → take count (got ++ rest) ≡ take count from
read_front from rest got count is enough =
    let long : length got ≡ count = omega (arith, ap length is, length-take count from, enough) in
    take-append-le count got rest (omega (arith, long)) ∙ take_all count got (omega (arith, long)) ∙ is

-- ---- a call of the store that only reads

pub at_same : (old now : Head) → now ≡ old → IsAt old now old.written
at_same old now same = record {
  same_size = ap (λ (h : Head). h.size) same;
  same_control = ap (λ (h : Head). h.control) same;
  same_path = ap (λ (h : Head). h.path) same;
  same_end = ap (λ (h : Head). h.written) same;
}

pub kept_comes : {A D : Type 0} (Refuses : NodeFault → Type 0) (Passes : Type 0) (Done : A → LogState → Type 0) (Partly : LogState → Type 0) (a : A)
    (disk new : DiskState) (old : HeldLog D) (now : Held D) (n : LogState) → Holds disk old.log n → old.log.stopped ≡ None → Passes → Done a n
    → now.head ≡ old.log.head → Breaks {A = Unit {0}} (Ok tt) old.log.failed now.broken
    → ((s : State) → Backs disk old.log.head s → StoreComes {A = Unit {0}} (Ok tt) disk new now.head (Before s) s (λ t. t ≡ s))
    → Comes {A = A} (Ok a) disk new (memory_of now old.log.walker old.log.stopped) n (Step Refuses Passes Done Partly n (Ok a))
    (Old n)
kept_comes {A} {D} Refuses Passes Done Partly a disk new old now n holds none passes done same breaks comes =
    let runs = running old n none holds.remembers in
    let size : now.head.size ≡ n.size = ap (λ (h : Head). h.size) same ∙ runs.2.size in
    record {
      next = n;
      is = (runs.0, passes, done);
      holds = record {
        remembers = inl (
          none,
          runs.0,
          ok_sound tt old.log.failed now.broken runs.1 breaks,
          subst (λ (h : Head). Runs h old.log.walker n) (sym same)
              runs.2,
        );
        backs = λ t b. (comes n.kept (holds.backs t b)).ok;
      };
      moments = λ t b. subst (λ (k : ℕ). LeavesOne disk new k (Old n)) size (comes n.kept (holds.backs t b)).moments;
      failed = λ is. absurd cc;
    }
