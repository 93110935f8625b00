-- The node's own call.
use Rattle.std.proofs.Common.{ℕ, List, map, subst}
use Rattle.repl_hub.specs.Holding.{Goes, HeldHub, Holds}
use Rattle.repl_hub.specs.Slots.{IsSlotAcquire}
use Rattle.repl_hub.proofs.Nodes.{held_with, kept_listed, of_listed, over_any, untold}
use Rattle.repl_node.specs.State.{NodeState}
use Rattle.repl_node.specs.Steps.{OfSlots, SameLeft}
use Rattle.repl_slots.specs.Slot.{CanUse, acquired}
use Rattle.repl_slots.specs.declared.slot.Slot.{Slot}
use Rattle.repl_hub.proofs.hub.HubState.slot_acquire.Goals as goal

pub invariant_of-self : goal.invariant_of-self
invariant_of-self g c =
    let state = g.D.Disk.state in
    let before : HeldHub g.row.D.Denot = record { node = c.self.inside.node; sync = c.self.inside.sync; links = c.self.inside.links.items; last = c.self.inside.last; stopped = c.self.inside.stopped } in
    let n : NodeState = untold c.self.invariant.node in
    kept_listed (state before.node.wal.disk) (state c.slot_acquire.new.self.wal.disk) before c.slot_acquire.new.self c.self.invariant
    (OfSlots n (map (acquired c.as_slice.result.now c.args.session) n.slots) c.slot_acquire.result) (SameLeft n)
    (c.slot_acquire.ensures.steps n (over_any (state before.node.wal.disk) before.node c.self.invariant.node c.self.invariant.remembers))

pub returns-clause-steps : goal.returns-clause-steps
returns-clause-steps g c h =
    let state = g.D.Disk.state in
    let before : HeldHub g.row.D.Denot = record { node = c.self.inside.node; sync = c.self.inside.sync; links = c.self.inside.links.items; last = c.self.inside.last; stopped = c.self.inside.stopped } in
    let after = c.slot_acquire.new.self in
    let n : NodeState = h.node in
    let name = c.as_slice.result.now in
    let Can : List Slot → Type 0 = λ slots. CanUse slots name c.args.session c.slot_acquire.result in
    let Named : List ℕ → Type 0 = λ nm. Goes (state before.node.wal.disk) (state after.wal.disk) (held_with before after before.sync) h
    (IsSlotAcquire h c.args.session nm c.slot_acquire.result) (SameLeft h.node) in
    let From : HeldHub g.row.D.Denot → Type 0 = λ k. Holds (state k.node.wal.disk) k h → Goes (state k.node.wal.disk)
    (state after.wal.disk) (held_with before after before.sync) h (IsSlotAcquire h c.args.session c.args.name.now c.slot_acquire.result) (SameLeft h.node) in
    subst From c.self.view_is (λ holds. subst Named c.as_slice.ensures.value (
    of_listed (state before.node.wal.disk) (state after.wal.disk) before after h Can
    (OfSlots n (map (acquired c.as_slice.result.now c.args.session) n.slots) c.slot_acquire.result) (SameLeft n) holds c.slot_acquire.ensures.answer (c.slot_acquire.ensures.steps n holds.node)))
