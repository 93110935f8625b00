-- The node's own call, and then the sessions are told.
use Rattle.std.proofs.Common.{Ok, Err, refl, subst}
use Rattle.repl_hub.specs.Holding.{Comes, HeldHub, Holds}
use Rattle.repl_hub.specs.Log.{IsFollow}
use Rattle.repl_hub.proofs.Nodes.{held_with, kept_past, kept_told, of_both, over_any, untold}
use Rattle.repl_hub.proofs.Numbers.{of_timeline}
use Rattle.repl_node.specs.State.{LeftOf, NodeState}
use Rattle.repl_node.specs.Steps.{OfLog}
use Rattle.repl_sync.specs.Sync as sync
use Rattle.repl_wal.specs.Following.{FollowLeaves, Follows}
use Rattle.repl_hub.proofs.hub.HubState.follow.Goals as goal

pub invariant_of-self : goal.invariant_of-self
invariant_of-self g c =
    let state = g.D.Disk.state in
    let before : HeldHub g.row.D.Denot = record { node = c.self.inside.node; sync = c.self.inside.sync; links = c.self.inside.links.items; last = c.self.inside.last; stopped = c.self.inside.stopped } in
    let n : NodeState = untold c.self.invariant.node in
    kept_told {A = Unit {0}} (Ok tt) (state before.node.wal.disk) (state c.follow.new.self.wal.disk) before c.follow.new.self c.new_timeline.new.self
    c.self.invariant (OfLog n (Follows n.log c.args.child.now (Ok tt))) (LeftOf n (FollowLeaves n.log c.args.child.now)) (of_timeline before.sync c.new_timeline.new.self c.new_timeline.ensures)
    (c.in-Ok.ensures.steps n (over_any (state before.node.wal.disk) before.node c.self.invariant.node c.self.invariant.remembers))

pub invariant_of-self-in-Err : goal.invariant_of-self-in-Err
invariant_of-self-in-Err g c =
    let state = g.D.Disk.state in
    let before : HeldHub g.row.D.Denot = record { node = c.self.inside.node; sync = c.self.inside.sync; links = c.self.inside.links.items; last = c.self.inside.last; stopped = c.self.inside.stopped } in
    let n : NodeState = untold c.self.invariant.node in
    kept_past {A = Unit {0}} (Err c.in-Err.fault) (state before.node.wal.disk) (state c.follow.new.self.wal.disk) before c.follow.new.self
    c.self.invariant (OfLog n (Follows n.log c.args.child.now (Err c.in-Err.fault))) (LeftOf n (FollowLeaves n.log c.args.child.now))
    (c.in-Err.ensures.steps n (over_any (state before.node.wal.disk) before.node c.self.invariant.node c.self.invariant.remembers))

pub returns-in-Ok-clause-steps : goal.returns-in-Ok-clause-steps
returns-in-Ok-clause-steps g c h =
    let state = g.D.Disk.state in
    let before : HeldHub g.row.D.Denot = record { node = c.self.inside.node; sync = c.self.inside.sync; links = c.self.inside.links.items; last = c.self.inside.last; stopped = c.self.inside.stopped } in
    let after = c.follow.new.self in
    let n : NodeState = h.node in
    let From : HeldHub g.row.D.Denot → Type 0 = λ k. Holds (state k.node.wal.disk) k h → Comes {A = Unit {0}} (Ok tt) (state k.node.wal.disk)
    (state after.wal.disk) (held_with before after c.new_timeline.new.self) h (IsFollow h c.args.child.now (Ok tt)) (LeftOf h.node (FollowLeaves h.node.log c.args.child.now)) in
    subst From c.self.view_is (λ holds.
    of_both {A = Unit {0}} (Ok tt) (state before.node.wal.disk) (state after.wal.disk) before after c.new_timeline.new.self sync.NewTimeline h
    (Follows n.log c.args.child.now (Ok tt)) (LeftOf n (FollowLeaves n.log c.args.child.now)) holds (c.in-Ok.ensures.steps n holds.node) c.new_timeline.ensures)

pub returns-in-Err-clause-steps : goal.returns-in-Err-clause-steps
returns-in-Err-clause-steps g c h =
    let state = g.D.Disk.state in
    let before : HeldHub g.row.D.Denot = record { node = c.self.inside.node; sync = c.self.inside.sync; links = c.self.inside.links.items; last = c.self.inside.last; stopped = c.self.inside.stopped } in
    let after = c.follow.new.self in
    let n : NodeState = h.node in
    let From : HeldHub g.row.D.Denot → Type 0 = λ k. Holds (state k.node.wal.disk) k h → Comes {A = Unit {0}} (Err c.in-Err.fault) (state k.node.wal.disk)
    (state after.wal.disk) (held_with before after before.sync) h (IsFollow h c.args.child.now (Err c.in-Err.fault)) (LeftOf h.node (FollowLeaves h.node.log c.args.child.now)) in
    subst From c.self.view_is (λ holds.
    of_both {A = Unit {0}} (Err c.in-Err.fault) (state before.node.wal.disk) (state after.wal.disk) before after before.sync sync.NewTimeline h
    (Follows n.log c.args.child.now (Err c.in-Err.fault)) (LeftOf n (FollowLeaves n.log c.args.child.now)) holds (c.in-Err.ensures.steps n holds.node) refl)
