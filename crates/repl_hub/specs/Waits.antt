-- Events of commits that wait for standbys (PostgreSQL 17 manual, section "Synchronous Replication").
use Rattle.std.specs.Prelude.{◌≡◌, ◌≢◌, ℕ, ◌<◌, ◌≤◌, ◌⊎◌, true, false, Some, Result, Ok, Err}
use Rattle.std.specs.declared.alloc.AllocError.{AllocError}
use Rattle.repl_control.specs.declared.control.Role.TheVariants.{Primary, Standby}
use Rattle.repl_hub.specs.Sessions.{OfSync}
use Rattle.repl_hub.specs.State.{HubView}
use Rattle.repl_hub.specs.declared.reply.WaitFault.{WaitFault}
use Rattle.repl_hub.specs.declared.reply.WaitFault.TheVariants as wait
use Rattle.repl_names.specs.StandbyList.{Listing}
use Rattle.repl_names.specs.declared.quorum.Mode.{Mode}
use Rattle.repl_sync.specs.State.{Prepared, State, fate_of}
use Rattle.repl_sync.specs.Sync as sync
use Rattle.repl_sync.specs.Sync.{SyncStep, done, given, stored}
use Rattle.repl_sync.specs.declared.certificate.Look.{Look}
use Rattle.repl_sync.specs.declared.fault.SyncFault.{SyncFault}
use Rattle.repl_wal.specs.State.{flushed_end, role_of}

-- the ticket was given and does not wait yet
abbrev pub IsPrepared : HubView → ℕ → Type 0
IsPrepared h ticket = fate_of h.sync.tickets ticket ≡ Some Prepared

-- nobody waits on a standby, or where a `Stop` came
abbrev pub WaitsForNone : HubView → Type 0
WaitsForNone h = (role_of h.node.log ≡ Standby) ⊎ (h.stopped ≡ true)

-- the commit waits for standbys
pub record CanWait (h : HubView) : Type 0 where
  pub primary : role_of h.node.log ≡ Primary
  pub runs : h.stopped ≡ false

-- The ticket is judged first, then whether anybody waits here, and then whether the commit is certain here.
abbrev pub IsWait : HubView → ℕ → ℕ → Mode → Result (Unit {0}) WaitFault → HubView → Type 0
IsWait h ticket end mode (Ok done) m = IsPrepared h ticket × ((WaitsForNone h × OfSync h (sync.WaitCancelled ticket) sync.Done m)
    ⊎ (CanWait h × (end ≤ flushed_end h.node.log) × OfSync h (sync.Wait ticket end mode) sync.Done m))
IsWait h ticket end mode (Err wait.Unknown) m = (fate_of h.sync.tickets ticket ≢ Some Prepared) × (m ≡ h)
IsWait h ticket end mode (Err (wait.NotFlushed flushed)) m = IsPrepared h ticket × CanWait h × (flushed ≡ flushed_end h.node.log)
    × (flushed < end) × (m ≡ h)

abbrev pub IsPrepare : HubView → Result ℕ SyncFault → HubView → Type 0
IsPrepare h result m = OfSync h sync.Prepare (given result) m

abbrev pub IsLook : HubView → ℕ → Look → HubView → Type 0
IsLook h ticket answer m = OfSync h (sync.ToLook ticket) (sync.Looked answer) m

abbrev pub IsCancel : HubView → ℕ → Result (Unit {0}) SyncFault → HubView → Type 0
IsCancel h ticket result m = OfSync h (sync.Cancel ticket) (done result) m

abbrev pub IsSetNames : HubView → Listing → Result (Unit {0}) AllocError → HubView → Type 0
IsSetNames h list result m = OfSync h (sync.SetNames list) (stored result) m

-- a copy of the list in force
abbrev pub IsNames : HubView → Result Listing AllocError → Type 0
IsNames h (Ok list) = list ≡ h.sync.list
IsNames h (Err e) = Unit {0}

-- all waits are cancelled, and no other begins
pub record IsStop (h m : HubView) : Type 0 where
  pub told : State
  pub step : SyncStep h.sync sync.CancelAll sync.Done told
  pub becomes : m ≡ record h { sync = told; stopped = true }
