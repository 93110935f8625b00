-- What the store's calls say, as a promotion makes them: over any disk, and of each state that the disk backs.
use Rattle.std.proofs.Common.{◌≡◌, ℕ, ◌⊎◌, ◌↔◌, true, [], Result, Err, OnOk, IfOk, IfErr}
use Rattle.repl_control.specs.declared.control.Role.TheVariants.{Primary}
use Rattle.repl_effects.specs.Counts.{DidNotFall}
use Rattle.repl_disk.specs.Folder.{IfTold}
use Rattle.repl_disk.specs.State.{DiskState}
use Rattle.repl_lsn.specs.History.{Path, last_switch}
use Rattle.repl_store.specs.Backing.{Backs, Before, Breaks, Either, IsCaused, State, flushed, flushed_control, heard, switched, switched_control, Comes as StoreComes}
use Rattle.repl_store.specs.Durable.{IsKnown}
use Rattle.repl_store.specs.Head.{Held, IsAt, Stands}
use Rattle.repl_store.specs.declared.fault.StoreFault.{StoreFault}
use Rattle.repl_store.specs.declared.fault.StoreFault.TheVariants as store

-- it listed the numbers of timelines
pub record Lists {D : Type 0} (disk new : DiskState) (was now : Held D) (result : Result ℕ StoreFault) : Type 0 where
  pub head : now.head ≡ was.head
  pub broken : (result ≡ Err store.Broken) ↔ (was.broken ≡ true)
  pub breaks : Breaks result was.broken now.broken
  pub known : IfOk result (λ known. IfTold disk.files (λ folder. IsKnown folder was.head.control.tli known))
  pub of_state : (s : State) → Backs disk was.head s → IfOk result (λ known. known ≡ s.durable.known)
  pub caused : IsCaused result disk new
  pub lacks : DidNotFall disk.lacks new.lacks
  pub comes : (s : State) → Backs disk was.head s → StoreComes result disk new now.head (Before s) s (λ t. t ≡ s)

-- it flushed
pub record Certain {D : Type 0} (disk new : DiskState) (was now : Held D) (whole last : ℕ) (result : Result (Unit {0}) StoreFault) : Type 0 where
  pub broken : (result ≡ Err store.Broken) ↔ (was.broken ≡ true)
  pub breaks : Breaks result was.broken now.broken
  pub ok : OnOk result (Stands now.head was.head.size (flushed_control was.head.control was.head.control.role was.head.written whole last)
      was.head.path was.head.written)
  pub stays : IfErr result (λ e. IsAt was.head now.head was.head.written)
  pub caused : IsCaused result disk new
  pub lacks : DidNotFall disk.lacks new.lacks
  pub comes : (s : State) → Backs disk was.head s → StoreComes result disk new now.head (Either s.durable (flushed s was.head.control.role whole
      last).durable) (flushed s was.head.control.role whole last) (λ t. t ≡ s)

-- it went over to a child
pub record Goes {D : Type 0} (disk new : DiskState) (was now : Held D) (child : Path) (whole last : ℕ) (result : Result (Unit {0}) StoreFault) : Type 0 where
  pub broken : (result ≡ Err store.Broken) ↔ (was.broken ≡ true)
  pub breaks : Breaks result was.broken now.broken
  pub ok : OnOk result (Stands now.head was.head.size (switched_control was.head.control child Primary whole last) child (last_switch child.parents))
  pub stays : IfErr result (λ e. IsAt was.head now.head was.head.written)
  pub caused : IsCaused result disk new
  pub lacks : DidNotFall disk.lacks new.lacks
  pub comes : (s : State) → Backs disk was.head s → StoreComes result disk new now.head
      (λ d. (d ≡ s.durable) ⊎ (d ≡ heard s.durable child.own) ⊎ (d ≡ switched s.durable child Primary whole last))
      (record { durable = switched s.durable child Primary whole last; unflushed = [] })
      (λ t. (t ≡ s) ⊎ (t ≡ record { durable = heard s.durable child.own; unflushed = s.unflushed }))
