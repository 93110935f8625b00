-- The log's own call.
use Rattle.std.proofs.Common.{refl, subst}
use Rattle.repl_wal.specs.Writing.{DemoteLeaves, Demotes}
use Rattle.repl_node.specs.Holding.{Comes, HeldNode, Holds}
use Rattle.repl_node.specs.State.{LeftOf}
use Rattle.repl_node.specs.Steps.{OfLog}
use Rattle.repl_node.proofs.Passing.{of_log}
use Rattle.repl_node.proofs.Taming.{demotes}
use Rattle.repl_node.proofs.node.Node.demote.Goals as goal

pub returns-clause-steps : goal.returns-clause-steps
returns-clause-steps g c n =
    let state = g.D.Disk.state in
    let result = c.demote.result in
    let before : HeldNode g.row.D.Denot = record { wal = c.self.inside.wal; slots = c.self.inside.slots } in
    let after : HeldNode g.row.D.Denot = record { wal = c.demote.new.self; slots = c.self.inside.slots } in
    let From : HeldNode g.row.D.Denot → Type 0 = λ h. Holds (state h.wal.disk) h n → Comes {A = Unit {0}} result (state h.wal.disk)
    (state after.wal.disk) after n (OfLog n (Demotes n.log result)) (LeftOf n (DemoteLeaves n.log)) in
    subst From c.self.view_is (λ holds.
    of_log result (state before.wal.disk) (state after.wal.disk) before after n (Demotes n.log result) (DemoteLeaves n.log)
    (demotes n result) holds c.demote.ensures.apart refl (c.demote.ensures.steps n.log holds.log))
