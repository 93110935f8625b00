-- It begins at the flushed end, where that is asked for.
use Rattle.std.proofs.Common.{◌∙◌, ◌++◌, ◌∷◌, [], List, Option, Some, None, if◌then◌else◌, ap, ℕ, subst}
use Rattle.repl_hub.specs.Holding.{Goes, HeldHub, Holds}
use Rattle.repl_hub.specs.Slots.{IsSlotCreate, reserved}
use Rattle.repl_hub.proofs.Nodes.{held_with, kept_listed, of_listed, over_any, untold}
use Rattle.repl_node.specs.State.{NodeState}
use Rattle.repl_node.specs.Steps.{OfSlots, SameLeft}
use Rattle.repl_slots.specs.Slot.{CanCreate, made}
use Rattle.repl_hub.proofs.Resting.{told_end}
use Rattle.repl_node.specs.Holding.{Goes as NodeGoes}
use Rattle.repl_hub.proofs.hub.HubState.slot_create.Goals as goal

pub invariant_of-self : goal.invariant_of-self
invariant_of-self g c =
    let state = g.D.Disk.state in
    let before : HeldHub g.row.D.Denot = record { node = c.self.inside.node; sync = c.self.inside.sync; links = c.self.inside.links.items; last = c.self.inside.last; stopped = c.self.inside.stopped } in
    let n : NodeState = untold c.self.invariant.node in
    kept_listed (state before.node.wal.disk) (state c.slot_create.new.self.wal.disk) before c.slot_create.new.self c.self.invariant
    (OfSlots n (n.slots ++ made c.as_slice.result.now c.args.temporary c.args.session c.reserved-restart.result ∷ []) c.slot_create.result) (SameLeft n)
    (c.slot_create.ensures.steps n (over_any (state before.node.wal.disk) before.node c.self.invariant.node c.self.invariant.remembers))

pub returns-clause-steps : goal.returns-clause-steps
returns-clause-steps g c h =
    let state = g.D.Disk.state in
    let before : HeldHub g.row.D.Denot = record { node = c.self.inside.node; sync = c.self.inside.sync; links = c.self.inside.links.items; last = c.self.inside.last; stopped = c.self.inside.stopped } in
    let after = c.slot_create.new.self in
    let name = c.as_slice.result.now in
    let session = c.args.session in
    let result = c.slot_create.result in
    let Named : List ℕ → Type 0 = λ nm. Goes (state before.node.wal.disk) (state after.wal.disk) (held_with before after before.sync) h
    (IsSlotCreate h session nm c.args.temporary c.args.reserve result) (SameLeft h.node) in
    let From : HeldHub g.row.D.Denot → Type 0 = λ k. Holds (state k.node.wal.disk) k h → Goes (state k.node.wal.disk)
    (state after.wal.disk) (held_with before after before.sync) h (IsSlotCreate h session c.args.name.now c.args.temporary c.args.reserve result) (SameLeft h.node) in
    subst From c.self.view_is (λ holds.
    let old = state before.node.wal.disk in
    let new = state after.wal.disk in
    let end = told_end old before h c.identify.result holds c.identify.ensures.told in
    let P : Option ℕ → Type 0 = λ r. NodeGoes old new after h.node (OfSlots h.node (h.node.slots ++ made name c.args.temporary session r ∷ []) result) (SameLeft h.node) in
    let R : ℕ → Option ℕ = λ e. if c.args.reserve then Some e else None in
    subst Named c.as_slice.ensures.value (of_listed old new before after h (λ slots. CanCreate slots name result)
    (OfSlots h.node (h.node.slots ++ made name c.args.temporary session (reserved h c.args.reserve) ∷ []) result) (SameLeft h.node) holds
    c.slot_create.ensures.answer (subst P (c.reserved-restart.ensures ∙ ap R end) (c.slot_create.ensures.steps h.node holds.node))))
