-- The node's own call.
use Rattle.std.proofs.Common.{◌≡◌, Err, subst}
use Rattle.repl_hub.specs.Holding.{Goes, HasFailed, HeldHub, Holds}
use Rattle.repl_hub.specs.Slots.{IsSlotSave}
use Rattle.repl_hub.proofs.Nodes.{held_with, kept_listed, of_node_goes, over_any, untold}
use Rattle.repl_node.specs.State.{NodeState}
use Rattle.repl_node.specs.Steps.{SaveLeaves, Saves}
use Rattle.repl_slots.specs.declared.fault.SlotFault.TheVariants as fault
use Rattle.repl_hub.proofs.hub.HubState.slot_save.Goals as goal

pub invariant_of-self : goal.invariant_of-self
invariant_of-self g c =
    let state = g.D.Disk.state in
    let before : HeldHub g.row.D.Denot = record { node = c.self.inside.node; sync = c.self.inside.sync; links = c.self.inside.links.items; last = c.self.inside.last; stopped = c.self.inside.stopped } in
    let n : NodeState = untold c.self.invariant.node in
    kept_listed (state before.node.wal.disk) (state c.slot_save.new.self.wal.disk) before c.slot_save.new.self c.self.invariant
    (Saves n c.slot_save.result) (SaveLeaves n)
    (c.slot_save.ensures.steps n (over_any (state before.node.wal.disk) before.node c.self.invariant.node c.self.invariant.remembers))

pub returns-clause-steps : goal.returns-clause-steps
returns-clause-steps g c h =
    let state = g.D.Disk.state in
    let before : HeldHub g.row.D.Denot = record { node = c.self.inside.node; sync = c.self.inside.sync; links = c.self.inside.links.items; last = c.self.inside.last; stopped = c.self.inside.stopped } in
    let after = c.slot_save.new.self in
    let From : HeldHub g.row.D.Denot → Type 0 = λ k. Holds (state k.node.wal.disk) k h → Goes (state k.node.wal.disk)
    (state after.wal.disk) (held_with before after before.sync) h (IsSlotSave h c.slot_save.result) (SaveLeaves h.node) in
    subst From c.self.view_is (λ holds.
    of_node_goes (state before.node.wal.disk) (state after.wal.disk) before after h (Saves h.node c.slot_save.result) (SaveLeaves h.node) holds
    (c.slot_save.ensures.steps h.node holds.node))

pub returns-clause-failed : goal.returns-clause-failed
returns-clause-failed g c h =
    let state = g.D.Disk.state in
    let before : HeldHub g.row.D.Denot = record { node = c.self.inside.node; sync = c.self.inside.sync; links = c.self.inside.links.items; last = c.self.inside.last; stopped = c.self.inside.stopped } in
    let From : HeldHub g.row.D.Denot → Type 0 = λ k. Holds (state k.node.wal.disk) k h → c.slot_save.result ≡ Err fault.DiskFault
    → HasFailed h (state k.node.wal.disk) (state c.slot_save.new.self.wal.disk) in
    subst From c.self.view_is (λ holds is. c.slot_save.ensures.failed h.node holds.node is)
