-- The node's own call.
use Rattle.std.proofs.Common.{ℕ, subst}
use Rattle.repl_hub.specs.Holding.{Comes, HeldHub, Holds}
use Rattle.repl_hub.specs.Log.{IsFlush}
use Rattle.repl_hub.proofs.Nodes.{held_with, kept_past, of_node, over_any, untold}
use Rattle.repl_node.specs.State.{LeftOf, NodeState}
use Rattle.repl_node.specs.Steps.{OfLog}
use Rattle.repl_wal.specs.Writing.{FlushLeaves, Flushes}
use Rattle.repl_hub.proofs.hub.HubState.flush.Goals as goal

pub invariant_of-self : goal.invariant_of-self
invariant_of-self g c =
    let state = g.D.Disk.state in
    let result = c.flush.result in
    let before : HeldHub g.row.D.Denot = record { node = c.self.inside.node; sync = c.self.inside.sync; links = c.self.inside.links.items; last = c.self.inside.last; stopped = c.self.inside.stopped } in
    let n : NodeState = untold c.self.invariant.node in
    kept_past {A = ℕ} result (state before.node.wal.disk) (state c.flush.new.self.wal.disk) before c.flush.new.self c.self.invariant
    (OfLog n (Flushes n.log result)) (LeftOf n (FlushLeaves n.log))
    (c.flush.ensures.steps n (over_any (state before.node.wal.disk) before.node c.self.invariant.node c.self.invariant.remembers))

pub returns-clause-steps : goal.returns-clause-steps
returns-clause-steps g c h =
    let state = g.D.Disk.state in
    let result = c.flush.result in
    let before : HeldHub g.row.D.Denot = record { node = c.self.inside.node; sync = c.self.inside.sync; links = c.self.inside.links.items; last = c.self.inside.last; stopped = c.self.inside.stopped } in
    let after = c.flush.new.self in
    let n : NodeState = h.node in
    let From : HeldHub g.row.D.Denot → Type 0 = λ k. Holds (state k.node.wal.disk) k h → Comes {A = ℕ} result (state k.node.wal.disk)
    (state after.wal.disk) (held_with before after before.sync) h (IsFlush h result) (LeftOf h.node (FlushLeaves h.node.log)) in
    subst From c.self.view_is (λ holds.
    of_node result (state before.node.wal.disk) (state after.wal.disk) before after h
    (OfLog n (Flushes n.log result)) (LeftOf n (FlushLeaves n.log)) holds (c.flush.ensures.steps n holds.node))
