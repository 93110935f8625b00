-- No position counts past the flushed end.
use Rattle.std.proofs.Common.{◌≡◌, ◌∙◌, ap, map, min, ℕ, subst}
use Rattle.repl_hub.specs.Holding.{Goes, HeldHub, Holds}
use Rattle.repl_hub.specs.Slots.{IsSlotConfirm}
use Rattle.repl_hub.proofs.Nodes.{held_with, kept_listed, of_slotted, over_any, untold}
use Rattle.repl_node.specs.State.{NodeState, with_slots}
use Rattle.repl_node.specs.Steps.{SameLeft}
use Rattle.repl_slots.specs.Slot.{confirmed}
use Rattle.repl_hub.proofs.Resting.{told_end}
use Rattle.repl_node.specs.Holding.{Goes as NodeGoes}
use Rattle.repl_wal.specs.State.{flushed_end}
use Rattle.repl_hub.proofs.hub.HubState.slot_confirm.Goals as goal

pub invariant_of-self : goal.invariant_of-self
invariant_of-self g c =
    let state = g.D.Disk.state in
    let before : HeldHub g.row.D.Denot = record { node = c.self.inside.node; sync = c.self.inside.sync; links = c.self.inside.links.items; last = c.self.inside.last; stopped = c.self.inside.stopped } in
    let n : NodeState = untold c.self.invariant.node in
    kept_listed (state before.node.wal.disk) (state c.slot_confirm.new.self.wal.disk) before c.slot_confirm.new.self c.self.invariant
    (λ m. m ≡ with_slots n (map (confirmed c.args.session c.lesser.result) n.slots)) (SameLeft n)
    (c.slot_confirm.ensures.steps n (over_any (state before.node.wal.disk) before.node c.self.invariant.node c.self.invariant.remembers))

pub returns-clause-steps : goal.returns-clause-steps
returns-clause-steps g c h =
    let state = g.D.Disk.state in
    let before : HeldHub g.row.D.Denot = record { node = c.self.inside.node; sync = c.self.inside.sync; links = c.self.inside.links.items; last = c.self.inside.last; stopped = c.self.inside.stopped } in
    let after = c.slot_confirm.new.self in
    let session = c.args.session in
    let From : HeldHub g.row.D.Denot → Type 0 = λ k. Holds (state k.node.wal.disk) k h → Goes (state k.node.wal.disk)
    (state after.wal.disk) (held_with before after before.sync) h (IsSlotConfirm h session c.args.at) (SameLeft h.node) in
    subst From c.self.view_is (λ holds.
    let old = state before.node.wal.disk in
    let new = state after.wal.disk in
    let end = told_end old before h c.identify-flushed.result holds c.identify-flushed.ensures.told in
    let at : c.lesser.result ≡ min c.args.at (flushed_end h.node.log) = c.lesser.ensures ∙ ap (min c.args.at) end in
    let P : ℕ → Type 0 = λ p. NodeGoes old new after h.node (λ m. m ≡ with_slots h.node (map (confirmed session p) h.node.slots)) (SameLeft h.node) in
    of_slotted old new before after h (map (confirmed session (min c.args.at (flushed_end h.node.log))) h.node.slots) (SameLeft h.node) holds
    (subst P at (c.slot_confirm.ensures.steps h.node holds.node)))
