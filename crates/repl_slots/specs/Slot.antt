-- Replication slots (PostgreSQL 17 manual, section "Replication Slots"), and what calls make of the list of them. Sessions
-- are numbered from 1; 0 stands for none.
use Rattle.std.specs.Prelude.{◌≡◌, ◌≢◌, ℕ, ◌<◌, ◌≤◌, ◌==◌, max, min, Bool, false, not, List, [], ◌∷◌, ◌++◌, length, map, filter, Option, Some, None, IsSome, is_some, Result, Ok, Err, bytes_eq, option_to_list, if◌then◌else◌, All, Contains}
use Rattle.std.specs.List.{find}
use Rattle.repl_text.specs.SlotName.{IsSlotName}
use Rattle.repl_slots.specs.declared.slot.Slot.{Slot}
use Rattle.repl_slots.specs.declared.slot.TheConstants.{SLOT_LIMIT}
use Rattle.repl_slots.specs.declared.fault.SlotFault.{SlotFault}
use Rattle.repl_slots.specs.declared.fault.SlotFault.TheVariants as fault

-- ---- a slot

-- the position that holds the log back: the one that was saved, and of a temporary slot its restart position
abbrev pub held : Slot → Option ℕ
held slot = if is_some slot.temporary then slot.restart else slot.saved

abbrev pub holder_of : Option ℕ → Option ℕ → ℕ → Option ℕ
holder_of (Some owner) maker session = Some owner
holder_of None None session = None
holder_of None (Some maker) session = if maker == session then None else Some maker

-- the session that keeps this one off the slot: its owner, or else another one that made it for itself
abbrev pub holder : Slot → ℕ → Option ℕ
holder slot session = holder_of slot.owner slot.temporary session

-- whether the session is the one, if there is one
abbrev pub is_session : ℕ → Option ℕ → Bool
is_session session None = false
is_session session (Some other) = other == session

-- a slot as it is made
abbrev pub made : List ℕ → Bool → ℕ → Option ℕ → Slot
made name temporary session restart = record {
  name = name;
  temporary = if temporary then Some session else None;
  owner = None;
  restart = restart;
  saved = None;
}

abbrev pub owned_by : Option ℕ → Slot → Slot
owned_by owner slot = record {
  name = slot.name;
  temporary = slot.temporary;
  owner = owner;
  restart = slot.restart;
  saved = slot.saved;
}

-- without its owner, where that is the session
abbrev pub released : ℕ → Slot → Slot
released session slot = if is_session session slot.owner then owned_by None slot else slot

-- a position that rose to another one, or is that where there was none
abbrev pub risen : Option ℕ → ℕ → Option ℕ
risen None at = Some at
risen (Some restart) at = Some (max restart at)

-- with its restart position risen, where the session owns it
abbrev pub confirmed : ℕ → ℕ → Slot → Slot
confirmed session at slot = if is_session session slot.owner then (record {
  name = slot.name;
  temporary = slot.temporary;
  owner = slot.owner;
  restart = risen slot.restart at;
  saved = slot.saved;
}) else slot

-- with its restart position saved, unless it is temporary
abbrev pub settled : Slot → Slot
settled slot = if is_some slot.temporary then slot else (record {
  name = slot.name;
  temporary = slot.temporary;
  owner = slot.owner;
  restart = slot.restart;
  saved = slot.restart;
})

-- ---- a list of slots

-- a slot has this name
abbrev pub is_named : List ℕ → Slot → Bool
is_named name slot = bytes_eq slot.name name

-- the slot of this name
abbrev pub slot_named : List ℕ → List Slot → Option Slot
slot_named name slots = find (is_named name) slots

-- it is none of these
abbrev pub IsNew : List (List ℕ) → List ℕ → Type 0
IsNew [] name = Unit {0}
IsNew (other ∷ names) name = (other ≢ name) × IsNew names name

-- no two of them are the same
abbrev pub Differ : List (List ℕ) → Type 0
Differ [] = Unit {0}
Differ (name ∷ names) = IsNew names name × Differ names

abbrev pub names_of : List Slot → List (List ℕ)
names_of slots = map (λ slot. slot.name) slots

-- at most so many as there may be, each with the name of a slot, and each with another
pub record AreSlots (slots : List Slot) : Type 0 where
  pub few : length slots ≤ SLOT_LIMIT
  pub named : All (λ slot. IsSlotName slot.name) slots
  pub differ : Differ (names_of slots)

-- what contracts see of `Slots`: the slots in the order of creation, and whether a disk fault came since they were mounted
pub record SlotList : Type 0 where
  pub slots : List Slot
  pub broken : Bool

-- with other slots
abbrev pub having : SlotList → List Slot → SlotList
having list slots = record { slots = slots; broken = list.broken }

-- ---- what is answered

-- Whether a slot of this name can be made. The name is judged first, then whether a slot has it, then whether there is room.
abbrev pub CanCreate : {A : Type 0} → List Slot → List ℕ → Result A SlotFault → Type 0
CanCreate slots name (Ok x) = IsSlotName name × (slot_named name slots ≡ None) × (length slots < SLOT_LIMIT)
CanCreate slots name (Err fault.BadName) = IsSlotName name → ⊥
CanCreate slots name (Err fault.Duplicate) = IsSlotName name × IsSome (slot_named name slots)
CanCreate slots name (Err (fault.Full limit)) = IsSlotName name × (slot_named name slots ≡ None) × (length slots ≡ SLOT_LIMIT)
    × (limit ≡ SLOT_LIMIT)
CanCreate slots name (Err fault.Memory) = Unit {0}
CanCreate slots name (Err fault.Broken) = ⊥
CanCreate slots name (Err fault.NoSlot) = ⊥
CanCreate slots name (Err (fault.InUse session)) = ⊥
CanCreate slots name (Err (fault.BadSlots place)) = ⊥
CanCreate slots name (Err fault.DiskFault) = ⊥

-- the slot of this name has this holder, as the session sees it
abbrev pub IsHeld : List Slot → List ℕ → ℕ → Option ℕ → Type 0
IsHeld slots name session by = (slot : Slot) × (slot_named name slots ≡ Some slot) × (holder slot session ≡ by)

-- Whether the session can use the slot of this name: there is one, and nobody keeps the session off it.
abbrev pub CanUse : {A : Type 0} → List Slot → List ℕ → ℕ → Result A SlotFault → Type 0
CanUse slots name session (Ok x) = IsHeld slots name session None
CanUse slots name session (Err fault.NoSlot) = slot_named name slots ≡ None
CanUse slots name session (Err (fault.InUse other)) = IsHeld slots name session (Some other)
CanUse slots name session (Err fault.Memory) = ⊥
CanUse slots name session (Err fault.Broken) = ⊥
CanUse slots name session (Err fault.BadName) = ⊥
CanUse slots name session (Err fault.Duplicate) = ⊥
CanUse slots name session (Err (fault.Full limit)) = ⊥
CanUse slots name session (Err (fault.BadSlots place)) = ⊥
CanUse slots name session (Err fault.DiskFault) = ⊥

-- ---- what calls make of a list

-- the slots but that of this name
abbrev pub without : List ℕ → List Slot → List Slot
without name slots = filter (λ slot. not (is_named name slot)) slots

-- the slot of this name has this owner
abbrev pub acquired : List ℕ → ℕ → Slot → Slot
acquired name session slot = if is_named name slot then owned_by (Some session) slot else slot

-- the slots but those that the session made for itself
abbrev pub without_temporary : ℕ → List Slot → List Slot
without_temporary session slots = filter (λ slot. not (is_session session slot.temporary)) slots

-- the slots past a session's end: it owns none, and those that it made for itself are gone
abbrev pub ended : ℕ → List Slot → List Slot
ended session slots = map (released session) (without_temporary session slots)

-- ---- what holds the log back

-- the positions that do
abbrev pub held_positions : List Slot → List ℕ
held_positions [] = []
held_positions (slot ∷ slots) = option_to_list (held slot) ++ held_positions slots

-- the least of these, and none where there is none
abbrev pub IsLeast : List ℕ → Option ℕ → Type 0
IsLeast positions None = positions ≡ []
IsLeast positions (Some least) = Contains positions least × All (λ position. least ≤ position) positions

-- the least position that holds the log back, and none where there is none
abbrev pub IsFloor : List Slot → Option ℕ → Type 0
IsFloor slots floor = IsLeast (held_positions slots) floor

-- the log is kept from the floor on, so also from this position, if it is one
abbrev pub IsKeptFrom : Option ℕ → Option ℕ → Type 0
IsKeptFrom floor None = Unit {0}
IsKeptFrom None (Some position) = ⊥
IsKeptFrom (Some floor) (Some position) = floor ≤ position

-- the lower of two positions, if there are any
abbrev pub lower : Option ℕ → Option ℕ → Option ℕ
lower None second = second
lower (Some a) None = Some a
lower (Some a) (Some b) = Some (min a b)
