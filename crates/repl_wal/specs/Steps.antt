-- How any call on a log ends.
use Rattle.std.specs.Prelude.{◌≡◌, ◌⊎◌, true, false, Result, Ok, Err}
use Rattle.repl_store.specs.Durable.{Durable}
use Rattle.repl_wal.specs.State.{LogState, breaking}
use Rattle.repl_wal.specs.declared.fault.NodeFault.{NodeFault}
use Rattle.repl_wal.specs.declared.fault.NodeFault.TheVariants as fault

-- From a log the call comes to this answer and to another log. `Refuses` says why it is refused, each exactly; `Passes`
-- that it is not; `Done` what it answers and leaves then; and `Partly` what it may leave where memory was wanting, which
-- may be at any place after `Broken`. What is refused changes nothing.
abbrev pub Step : {A : Type 0} → (NodeFault → Type 0) → Type 0 → (A → LogState → Type 0) → (LogState → Type 0) → LogState → Result A NodeFault
    → LogState → Type 0
Step Refuses Passes Done Partly n (Ok a) m = (n.broken ≡ false) × Passes × Done a m
Step Refuses Passes Done Partly n (Err fault.Broken) m = (n.broken ≡ true) × (m ≡ n)
Step Refuses Passes Done Partly n (Err fault.DiskFault) m = (n.broken ≡ false) × Passes × (m ≡ breaking n)
Step Refuses Passes Done Partly n (Err fault.Memory) m = (n.broken ≡ false) × Partly m
Step Refuses Passes Done Partly n (Err e) m = (n.broken ≡ false) × Refuses e × (m ≡ n)

-- nothing was done
abbrev pub Only : LogState → LogState → Type 0
Only n m = m ≡ n

-- a call that nothing refuses but what stops every call
abbrev pub Never : NodeFault → Type 0
Never e = ⊥

-- ---- what a crash in it leaves

-- the log from before
abbrev pub Old : LogState → Durable → Type 0
Old n d = d ≡ n.kept.durable

-- that, or one that the call makes
abbrev pub OldOr : {A : Type 0} → LogState → (A → LogState → Type 0) → Durable → Type 0
OldOr {A} n Done d = (d ≡ n.kept.durable) ⊎ ((a : A) × (m : LogState) × Done a m × (d ≡ m.kept.durable))
