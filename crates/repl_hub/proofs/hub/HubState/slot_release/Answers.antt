-- The node's own call.
use Rattle.std.proofs.Common.{◌≡◌, map}
use Rattle.repl_hub.specs.Holding.{HeldHub}
use Rattle.repl_hub.proofs.Nodes.{kept_listed, over_any, untold}
use Rattle.repl_node.specs.State.{NodeState, with_slots}
use Rattle.repl_node.specs.Steps.{SameLeft}
use Rattle.repl_slots.specs.Slot.{released}
use Rattle.repl_hub.proofs.hub.HubState.slot_release.Goals as goal

pub invariant_of-self : goal.invariant_of-self
invariant_of-self g c =
    let state = g.D.Disk.state in
    let before : HeldHub g.row.D.Denot = record { node = c.self.inside.node; sync = c.self.inside.sync; links = c.self.inside.links.items; last = c.self.inside.last; stopped = c.self.inside.stopped } in
    let n : NodeState = untold c.self.invariant.node in
    kept_listed (state before.node.wal.disk) (state c.slot_release.new.self.wal.disk) before c.slot_release.new.self c.self.invariant
    (λ m. m ≡ with_slots n (map (released c.args.session) n.slots)) (SameLeft n)
    (c.slot_release.ensures.steps n (over_any (state before.node.wal.disk) before.node c.self.invariant.node c.self.invariant.remembers))
