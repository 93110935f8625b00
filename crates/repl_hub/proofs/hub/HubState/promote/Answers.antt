-- The node's own call, and then the sessions are told.
use Rattle.std.proofs.Common.{ℕ, Ok, Err, refl, subst}
use Rattle.repl_hub.specs.Holding.{Comes, HeldHub, Holds}
use Rattle.repl_hub.specs.Log.{IsPromote}
use Rattle.repl_hub.proofs.Nodes.{held_with, kept_past, kept_told, of_both, over_any, untold}
use Rattle.repl_hub.proofs.Numbers.{of_timeline}
use Rattle.repl_node.specs.State.{LeftOf, NodeState}
use Rattle.repl_node.specs.Steps.{OfLog}
use Rattle.repl_sync.specs.Sync as sync
use Rattle.repl_wal.specs.Promoting.{PromoteLeaves, Promotes}
use Rattle.repl_hub.proofs.hub.HubState.promote.Goals as goal

pub invariant_of-self : goal.invariant_of-self
invariant_of-self g c =
    let state = g.D.Disk.state in
    let before : HeldHub g.row.D.Denot = record { node = c.self.inside.node; sync = c.self.inside.sync; links = c.self.inside.links.items; last = c.self.inside.last; stopped = c.self.inside.stopped } in
    let n : NodeState = untold c.self.invariant.node in
    kept_told {A = ℕ × ℕ} (Ok c.in-Ok.begun) (state before.node.wal.disk) (state c.promote.new.self.wal.disk) before c.promote.new.self c.new_timeline.new.self
    c.self.invariant (OfLog n (Promotes n.log c.args.at_least (Ok c.in-Ok.begun))) (LeftOf n (PromoteLeaves n.log c.args.at_least)) (of_timeline before.sync c.new_timeline.new.self c.new_timeline.ensures)
    (c.in-Ok.ensures.steps n (over_any (state before.node.wal.disk) before.node c.self.invariant.node c.self.invariant.remembers))

pub invariant_of-self-in-Err : goal.invariant_of-self-in-Err
invariant_of-self-in-Err g c =
    let state = g.D.Disk.state in
    let before : HeldHub g.row.D.Denot = record { node = c.self.inside.node; sync = c.self.inside.sync; links = c.self.inside.links.items; last = c.self.inside.last; stopped = c.self.inside.stopped } in
    let n : NodeState = untold c.self.invariant.node in
    kept_past {A = ℕ × ℕ} (Err c.in-Err.fault) (state before.node.wal.disk) (state c.promote.new.self.wal.disk) before c.promote.new.self
    c.self.invariant (OfLog n (Promotes n.log c.args.at_least (Err c.in-Err.fault))) (LeftOf n (PromoteLeaves n.log c.args.at_least))
    (c.in-Err.ensures.steps n (over_any (state before.node.wal.disk) before.node c.self.invariant.node c.self.invariant.remembers))

pub returns-in-Ok-clause-steps : goal.returns-in-Ok-clause-steps
returns-in-Ok-clause-steps g c h =
    let state = g.D.Disk.state in
    let before : HeldHub g.row.D.Denot = record { node = c.self.inside.node; sync = c.self.inside.sync; links = c.self.inside.links.items; last = c.self.inside.last; stopped = c.self.inside.stopped } in
    let after = c.promote.new.self in
    let n : NodeState = h.node in
    let From : HeldHub g.row.D.Denot → Type 0 = λ k. Holds (state k.node.wal.disk) k h → Comes {A = ℕ × ℕ} (Ok c.in-Ok.begun) (state k.node.wal.disk)
    (state after.wal.disk) (held_with before after c.new_timeline.new.self) h (IsPromote h c.args.at_least (Ok c.in-Ok.begun)) (LeftOf h.node (PromoteLeaves h.node.log c.args.at_least)) in
    subst From c.self.view_is (λ holds.
    of_both {A = ℕ × ℕ} (Ok c.in-Ok.begun) (state before.node.wal.disk) (state after.wal.disk) before after c.new_timeline.new.self sync.NewTimeline h
    (Promotes n.log c.args.at_least (Ok c.in-Ok.begun)) (LeftOf n (PromoteLeaves n.log c.args.at_least)) holds (c.in-Ok.ensures.steps n holds.node) c.new_timeline.ensures)

pub returns-in-Err-clause-steps : goal.returns-in-Err-clause-steps
returns-in-Err-clause-steps g c h =
    let state = g.D.Disk.state in
    let before : HeldHub g.row.D.Denot = record { node = c.self.inside.node; sync = c.self.inside.sync; links = c.self.inside.links.items; last = c.self.inside.last; stopped = c.self.inside.stopped } in
    let after = c.promote.new.self in
    let n : NodeState = h.node in
    let From : HeldHub g.row.D.Denot → Type 0 = λ k. Holds (state k.node.wal.disk) k h → Comes {A = ℕ × ℕ} (Err c.in-Err.fault) (state k.node.wal.disk)
    (state after.wal.disk) (held_with before after before.sync) h (IsPromote h c.args.at_least (Err c.in-Err.fault)) (LeftOf h.node (PromoteLeaves h.node.log c.args.at_least)) in
    subst From c.self.view_is (λ holds.
    of_both {A = ℕ × ℕ} (Err c.in-Err.fault) (state before.node.wal.disk) (state after.wal.disk) before after before.sync sync.NewTimeline h
    (Promotes n.log c.args.at_least (Err c.in-Err.fault)) (LeftOf n (PromoteLeaves n.log c.args.at_least)) holds (c.in-Err.ensures.steps n holds.node) refl)
