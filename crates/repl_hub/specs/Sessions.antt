-- Events of sessions: they begin and end, stream, and report how far their standbys are (PostgreSQL 17 manual, sections
-- "Streaming Replication" and "Synchronous Replication").
use Rattle.std.specs.Prelude.{◌≡◌, ◌≢◌, ℕ, ◌+◌, ◌<◌, ◌≤◌, ◌⊎◌, min, Bool, true, false, List, [], ◌∷◌, ◌++◌, Result, Ok, Err}
use Rattle.repl_hub.specs.State.{HubView, count_kind, is_linked, limit_of, unlinked, with_sync}
use Rattle.repl_hub.specs.declared.link.Link.{Link}
use Rattle.repl_hub.specs.declared.link.TheConstants.{LAST_SESSION}
use Rattle.repl_hub.specs.declared.reply.ConnectFault.{ConnectFault}
use Rattle.repl_hub.specs.declared.reply.ConnectFault.TheVariants as connect
use Rattle.repl_node.specs.State.{with_slots}
use Rattle.repl_slots.specs.Slot.{ended}
use Rattle.repl_sync.specs.State.{State}
use Rattle.repl_sync.specs.Sync as sync
use Rattle.repl_sync.specs.Sync.{SyncStep, done}
use Rattle.repl_sync.specs.declared.fault.SyncFault.{SyncFault}
use Rattle.repl_sync.specs.declared.fault.SyncFault.TheVariants as fault
use Rattle.repl_sync.specs.declared.session.FeedbackValue.{FeedbackValue}
use Rattle.repl_wal.specs.State.{flushed_end, own_timeline}

-- the event concerns the sessions and tickets alone
abbrev pub OfSync : HubView → sync.Event → sync.Reply → HubView → Type 0
OfSync h event reply m = (told : State) × SyncStep h.sync event reply told × (m ≡ with_sync h told)

-- ---- beginning

-- there may be no other session of this kind
abbrev pub IsFull : HubView → Bool → Type 0
IsFull h replication = (limit_of replication ≤ count_kind replication h.links) ⊎ (LAST_SESSION ≤ h.last)

-- there may be one
pub record HasRoom (h : HubView) (replication : Bool) : Type 0 where
  pub runs : h.stopped ≡ false
  pub below : count_kind replication h.links < limit_of replication
  pub left : h.last < LAST_SESSION

-- The session has the number after the last one.
pub record IsConnected (h : HubView) (name : List ℕ) (replication : Bool) (number : ℕ) (m : HubView) : Type 0 where
  pub room : HasRoom h replication
  pub next : number ≡ h.last + 1
  pub told : State
  pub step : SyncStep h.sync (sync.Connect number name) sync.Done told
  pub becomes : m ≡ record h {
    sync = told;
    links = h.links ++ record { number = number; replication = replication } ∷ [];
    last = number;
  }

abbrev pub IsConnect : HubView → List ℕ → Bool → Result ℕ ConnectFault → HubView → Type 0
IsConnect h name replication (Ok number) m = IsConnected h name replication number m
IsConnect h name replication (Err connect.Stopped) m = (h.stopped ≡ true) × (m ≡ h)
IsConnect h name replication (Err (connect.TooMany there)) m = (h.stopped ≡ false) × IsFull h replication
    × (there ≡ count_kind replication h.links) × (m ≡ h)
IsConnect h name replication (Err connect.Memory) m = HasRoom h replication × (m ≡ h)

-- ---- streaming

-- whether the session is there
abbrev pub KnowsLink : List Link → ℕ → Result (Unit {0}) SyncFault → Type 0
KnowsLink links session result = ((is_linked session links ≡ true) × (result ≡ Ok tt)) ⊎ ((is_linked session links ≡ false)
    × (result ≡ Err fault.Unknown))

-- Who streams an older timeline counts for no commit: that changes nothing.
abbrev pub IsStreaming : HubView → ℕ → ℕ → Result (Unit {0}) SyncFault → HubView → Type 0
IsStreaming h session tli result m = ((tli ≡ own_timeline h.node.log) × OfSync h (sync.Streaming session) (done result) m)
    ⊎ ((tli ≢ own_timeline h.node.log) × KnowsLink h.links session result × (m ≡ h))

abbrev pub IsStopStreaming : HubView → ℕ → Result (Unit {0}) SyncFault → HubView → Type 0
IsStopStreaming h session result m = OfSync h (sync.StopStreaming session) (done result) m

-- no position counts past the flushed end
abbrev pub IsReport : HubView → ℕ → ℕ → ℕ → ℕ → Result (Unit {0}) SyncFault → HubView → Type 0
IsReport h session written flushed applied result m = let end = flushed_end h.node.log in
    OfSync h (sync.Report session (min written end) (min flushed end) (min applied end)) (done result) m

abbrev pub IsFeedback : HubView → ℕ → FeedbackValue → Result (Unit {0}) SyncFault → HubView → Type 0
IsFeedback h session value result m = OfSync h (sync.Feedback session value) (done result) m

-- ---- ending

-- its slots are nobody's, and its temporary ones are gone
pub record IsDisconnected (h : HubView) (session : ℕ) (m : HubView) : Type 0 where
  pub told : State
  pub step : SyncStep h.sync (sync.Disconnect session) sync.Done told
  pub becomes : m ≡ record h { node = with_slots h.node (ended session h.node.slots); sync = told; links = unlinked session h.links }

abbrev pub IsDisconnect : HubView → ℕ → Result (Unit {0}) SyncFault → HubView → Type 0
IsDisconnect h session (Ok done) m = IsDisconnected h session m
IsDisconnect h session (Err e) m = SyncStep h.sync (sync.Disconnect session) (sync.Refused e) h.sync × (m ≡ h)
