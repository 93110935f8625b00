-- Events that are calls of the node on its slots (PostgreSQL 17 manual, section "Replication Slots").
use Rattle.std.specs.Prelude.{◌≡◌, ℕ, min, Bool, if◌then◌else◌, List, [], ◌∷◌, ◌++◌, map, Option, Some, None, Result}
use Rattle.repl_hub.specs.Log.{OfNode}
use Rattle.repl_hub.specs.State.{HubView, slotted}
use Rattle.repl_hub.specs.declared.reply.SlotPlace.{SlotPlace}
use Rattle.repl_hub.specs.declared.reply.SlotPlace.TheVariants as place
use Rattle.repl_lsn.specs.History.{Path}
use Rattle.repl_lsn.specs.Path.{timeline_at}
use Rattle.repl_node.specs.Steps.{OfSlots, Saves}
use Rattle.repl_slots.specs.Slot.{CanCreate, CanUse, acquired, confirmed, made, released, slot_named, without}
use Rattle.repl_slots.specs.declared.fault.SlotFault.{SlotFault}
use Rattle.repl_slots.specs.declared.slot.Slot.{Slot}
use Rattle.repl_wal.specs.State.{flushed_end, path_of}

-- where a slot begins that is made now
abbrev pub reserved : HubView → Bool → Option ℕ
reserved h reserve = if reserve then Some (flushed_end h.node.log) else None

abbrev pub IsSlotCreate : HubView → ℕ → List ℕ → Bool → Bool → Result (Unit {0}) SlotFault → HubView → Type 0
IsSlotCreate h session name temporary reserve result m = CanCreate h.node.slots name result
    × OfNode h (OfSlots h.node (h.node.slots ++ made name temporary session (reserved h reserve) ∷ []) result) m

abbrev pub IsSlotDrop : HubView → ℕ → List ℕ → Result (Unit {0}) SlotFault → HubView → Type 0
IsSlotDrop h session name result m = CanUse h.node.slots name session result × OfNode h (OfSlots h.node (without name h.node.slots) result) m

abbrev pub IsSlotAcquire : HubView → ℕ → List ℕ → Result (Unit {0}) SlotFault → HubView → Type 0
IsSlotAcquire h session name result m = CanUse h.node.slots name session result
    × OfNode h (OfSlots h.node (map (acquired name session) h.node.slots) result) m

abbrev pub IsSlotRelease : HubView → ℕ → HubView → Type 0
IsSlotRelease h session m = m ≡ slotted h (map (released session) h.node.slots)

-- no position counts past the flushed end
abbrev pub IsSlotConfirm : HubView → ℕ → ℕ → HubView → Type 0
IsSlotConfirm h session at m = m ≡ slotted h (map (confirmed session (min at (flushed_end h.node.log))) h.node.slots)

abbrev pub IsSlotSave : HubView → Result (Unit {0}) SlotFault → HubView → Type 0
IsSlotSave h result m = OfNode h (Saves h.node result) m

-- where a slot begins, on this path
abbrev pub place_of : Path → Option ℕ → SlotPlace
place_of path None = place.NoPosition
place_of path (Some restart) = place.At restart (timeline_at path restart)

abbrev pub place_in : Path → Option Slot → SlotPlace
place_in path None = place.NoSlot
place_in path (Some slot) = place_of path slot.restart

abbrev pub slot_place : HubView → List ℕ → SlotPlace
slot_place h name = place_in (path_of h.node.log) (slot_named name h.node.slots)
