-- A hub: a node, those who are connected to it, and the commits that wait for its standbys. All of it is plain data.
use Rattle.std.specs.Prelude.{◌≡◌, ℕ, Bool, ◌==◌, not, if◌then◌else◌, List, filter, length, map}
use Rattle.std.specs.List.{list_any}
use Rattle.repl_hub.specs.declared.link.Link.{Link}
use Rattle.repl_hub.specs.declared.link.TheConstants.{ORDINARY_LIMIT, REPLICATION_LIMIT}
use Rattle.repl_node.specs.State.{NodeState, with_slots}
use Rattle.repl_slots.specs.declared.slot.Slot.{Slot}
use Rattle.repl_sync.specs.State.{State}

pub record HubView : Type 0 where
  pub node : NodeState
  -- sessions, the list in force, and tickets
  pub sync : State
  -- the connections, in the order in which they came
  pub links : List Link
  -- the number of the last session, 0 at first
  pub last : ℕ
  -- a `Stop` came
  pub stopped : Bool

-- ---- the same hub, but for one part

abbrev pub with_node : HubView → NodeState → HubView
with_node h node = record h { node = node }

abbrev pub with_sync : HubView → State → HubView
with_sync h sync = record h { sync = sync }

abbrev pub with_both : HubView → NodeState → State → HubView
with_both h node sync = record h { node = node; sync = sync }

abbrev pub slotted : HubView → List Slot → HubView
slotted h slots = with_node h (with_slots h.node slots)

-- ---- connections

abbrev pub is_kind : Bool → Link → Bool
is_kind replication link = if replication then link.replication else not link.replication

-- how many there are of this kind
abbrev pub count_kind : Bool → List Link → ℕ
count_kind replication links = length (filter (is_kind replication) links)

-- how many there may be
abbrev pub limit_of : Bool → ℕ
limit_of replication = if replication then REPLICATION_LIMIT else ORDINARY_LIMIT

abbrev pub is_link : ℕ → Link → Bool
is_link number link = link.number == number

-- one of them has this number
abbrev pub is_linked : ℕ → List Link → Bool
is_linked number links = list_any (is_link number) links

-- without that one
abbrev pub unlinked : ℕ → List Link → List Link
unlinked number links = filter (λ link. not (is_link number link)) links

-- the connections are the sessions
abbrev pub AreLinks : HubView → Type 0
AreLinks h = map (λ (link : Link). link.number) h.links ≡ map (λ session. session.number) h.sync.sessions
