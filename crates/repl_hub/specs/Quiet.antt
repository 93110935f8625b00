-- Which events nobody waits for.
use Rattle.std.specs.Prelude.{Bool, true, false, List, filter}
use Rattle.repl_hub.specs.declared.event.HubEvent.{HubEvent}
use Rattle.repl_hub.specs.declared.event.HubEvent.TheVariants as event
use Rattle.repl_hub.specs.State.{HubView}
use Rattle.repl_sync.specs.State.{Fate, Ticket, Waiting, Prepared, Released, Cancelled}
use Rattle.repl_wal.specs.State.{identity_in, status_of_log}
use Rattle.repl_wal.specs.declared.wal.Identity.{Identity}

-- questions, and what changes nothing but what its own session knows
abbrev pub is_quiet : HubEvent → Bool
is_quiet event.Identify = true
is_quiet (event.History tli) = true
is_quiet (event.Read tli at most) = true
is_quiet (event.Append item) = false
is_quiet event.Flush = false
is_quiet (event.Receive tli start bytes) = false
is_quiet (event.Follow child) = false
is_quiet (event.Promote at_least) = false
is_quiet event.Demote = false
is_quiet (event.Trim keep) = false
is_quiet event.Status = true
is_quiet (event.SlotCreate session name temporary reserve) = false
is_quiet (event.SlotDrop session name) = false
is_quiet (event.SlotRead name) = true
is_quiet (event.SlotAcquire session name) = false
is_quiet (event.SlotRelease session) = false
is_quiet (event.SlotConfirm session at) = false
is_quiet event.SlotSave = false
is_quiet (event.Connect name replication) = false
is_quiet (event.Streaming session tli) = false
is_quiet (event.StopStreaming session) = false
is_quiet (event.Report session written flushed applied) = false
is_quiet (event.Feedback session value) = true
is_quiet (event.Disconnect session) = false
is_quiet (event.SetNames list) = false
is_quiet event.Prepare = true
is_quiet (event.Wait ticket end mode) = false
is_quiet (event.Look ticket) = true
is_quiet (event.Cancel ticket) = false
is_quiet event.Names = true
is_quiet event.Stop = false

-- a ticket that waits
abbrev pub is_waiting : Fate → Bool
is_waiting (Waiting end m) = true
is_waiting Prepared = false
is_waiting (Released c) = false
is_waiting Cancelled = false

-- What others wait for: how far the log stands and on which timeline, which commits wait still, and that the node stops.
pub record Awaited : Type 0 where
  pub identity : Identity
  pub waiting : List Ticket
  pub stopped : Bool

abbrev pub awaited : HubView → Awaited
awaited h = record {
  identity = identity_in (status_of_log h.node.log);
  waiting = filter (λ t. is_waiting t.fate) h.sync.tickets;
  stopped = h.stopped;
}
