-- How a hub's state, its memory and the files of its disk hang together.
use Rattle.std.specs.Prelude.{◌≡◌, ℕ, Bool, true, false, List, Result, Err}
use Rattle.repl_disk.specs.State.{DiskState}
use Rattle.repl_hub.specs.State.{AreLinks, HubView}
use Rattle.repl_hub.specs.declared.link.Link.{Link}
use Rattle.repl_node.specs.Holding.{HasFailed as HasFailedNode, HeldNode, Holds as HoldsNode, LeavesSome, Remembers, disk_of as disk_of_node}
use Rattle.repl_node.specs.State.{Left, NodeState}
use Rattle.repl_sync.specs.State.{State}
use Rattle.repl_wal.specs.declared.fault.NodeFault.{NodeFault}
use Rattle.repl_wal.specs.declared.fault.NodeFault.TheVariants as fault

-- a hub, as contracts see it
pub record HeldHub (D : Type 0) : Type 0 where
  pub node : HeldNode D
  pub sync : State
  pub links : List Link
  pub last : ℕ
  pub stopped : Bool

abbrev pub disk_of : {D : Type 0} → HeldHub D → D
disk_of held = disk_of_node held.node

-- the hub whose node is this, and whose sessions are those in memory
abbrev pub hub_of : {D : Type 0} → HeldHub D → NodeState → HubView
hub_of held node = record { node = node; sync = held.sync; links = held.links; last = held.last; stopped = held.stopped }

-- The hub is in this state: in memory, and its node on its disk.
pub record Holds {D : Type 0} (disk : DiskState) (held : HeldHub D) (h : HubView) : Type 0 where
  pub node : HoldsNode disk held.node h.node
  pub is : h ≡ hub_of held h.node

-- Its node is in some state, and its connections are its sessions: so it is at every moment.
pub record IsKept {D : Type 0} (held : HeldHub D) : Type 0 where
  pub node : NodeState
  pub remembers : Remembers held.node node
  pub links : AreLinks (hub_of held node)

-- the disk counted a failure, or, where its files are not known to be the hub's, a lack
abbrev pub HasFailed : HubView → DiskState → DiskState → Type 0
HasFailed h old new = HasFailedNode h.node old new

-- What an event comes to: the hub goes to a next state, and a crash in the event leaves one of a column's.
pub record Goes {D : Type 0} (old new : DiskState) (held : HeldHub D) (h : HubView) (Next : HubView → Type 0) (left : Left) : Type 0 where
  pub next : HubView
  pub is : Next next
  pub holds : Holds new held next
  pub moments : h.node.log.told ≡ true → h.node.log.broken ≡ false → LeavesSome old new h.node.log.size left

-- And a failure is answered only where the disk counted one, or, where its files are not known, a lack.
pub record Comes {A D : Type 0} (result : Result A NodeFault) (old new : DiskState) (held : HeldHub D) (h : HubView)
    (Next : HubView → Type 0) (left : Left) : Type 0 where
  pub goes : Goes old new held h Next left
  pub failed : result ≡ Err fault.DiskFault → HasFailed h old new

-- ---- events, over the state that a disk tells

-- so an event goes from each state in which the hub is: `Next` says which states may come, and `left` what a crash in it leaves
abbrev pub Steps : {D : Type 0} → (D → DiskState) → HeldHub D → HeldHub D → (HubView → HubView → Type 0) → (HubView → Left) → Type 0
Steps state old new Next left = (h : HubView) → Holds (state (disk_of old)) old h →
    Goes (state (disk_of old)) (state (disk_of new)) new h (Next h) (left h)

-- and so one that answers as the log does
abbrev pub Calls : {A D : Type 0} → (D → DiskState) → HeldHub D → HeldHub D → Result A NodeFault → (HubView → HubView → Type 0)
    → (HubView → Left) → Type 0
Calls state old new result Next left = (h : HubView) → Holds (state (disk_of old)) old h →
    Comes result (state (disk_of old)) (state (disk_of new)) new h (Next h) (left h)

-- that the disk failed is told only where it did
abbrev pub HasCause : {D : Type 0} → (D → DiskState) → HeldHub D → HeldHub D → Type 0 → Type 0
HasCause state old new Told = (h : HubView) → Holds (state (disk_of old)) old h → Told → HasFailed h (state (disk_of old)) (state (disk_of new))

-- no call of the disk was made
abbrev pub SameDisk : {D : Type 0} → HeldHub D → HeldHub D → Type 0
SameDisk old new = disk_of new ≡ disk_of old
