-- The log's own call.
use Rattle.std.proofs.Common.{refl, subst}
use Rattle.repl_wal.specs.Following.{FollowLeaves, Follows}
use Rattle.repl_node.specs.Holding.{Comes, HeldNode, Holds}
use Rattle.repl_node.specs.State.{LeftOf}
use Rattle.repl_node.specs.Steps.{OfLog}
use Rattle.repl_node.proofs.Passing.{of_log}
use Rattle.repl_node.proofs.Taming.{follows}
use Rattle.repl_node.proofs.node.Node.follow.Goals as goal

pub returns-clause-steps : goal.returns-clause-steps
returns-clause-steps g c n =
    let state = g.D.Disk.state in
    let result = c.follow.result in
    let before : HeldNode g.row.D.Denot = record { wal = c.self.inside.wal; slots = c.self.inside.slots } in
    let after : HeldNode g.row.D.Denot = record { wal = c.follow.new.self; slots = c.self.inside.slots } in
    let From : HeldNode g.row.D.Denot → Type 0 = λ h. Holds (state h.wal.disk) h n → Comes {A = Unit {0}} result (state h.wal.disk)
    (state after.wal.disk) after n (OfLog n (Follows n.log c.args.child.now result)) (LeftOf n (FollowLeaves n.log c.args.child.now)) in
    subst From c.self.view_is (λ holds.
    of_log result (state before.wal.disk) (state after.wal.disk) before after n (Follows n.log c.args.child.now result) (FollowLeaves n.log c.args.child.now)
    (follows n c.args.child.now result) holds c.follow.ensures.apart refl (c.follow.ensures.steps n.log holds.log))
