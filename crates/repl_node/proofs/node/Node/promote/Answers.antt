-- The log's own call.
use Rattle.std.proofs.Common.{ℕ, refl, subst}
use Rattle.repl_wal.specs.Promoting.{PromoteLeaves, Promotes}
use Rattle.repl_node.specs.Holding.{Comes, HeldNode, Holds}
use Rattle.repl_node.specs.State.{LeftOf}
use Rattle.repl_node.specs.Steps.{OfLog}
use Rattle.repl_node.proofs.Passing.{of_log}
use Rattle.repl_node.proofs.Taming.{promotes}
use Rattle.repl_node.proofs.node.Node.promote.Goals as goal

pub returns-clause-steps : goal.returns-clause-steps
returns-clause-steps g c n =
    let state = g.D.Disk.state in
    let result = c.promote.result in
    let before : HeldNode g.row.D.Denot = record { wal = c.self.inside.wal; slots = c.self.inside.slots } in
    let after : HeldNode g.row.D.Denot = record { wal = c.promote.new.self; slots = c.self.inside.slots } in
    let From : HeldNode g.row.D.Denot → Type 0 = λ h. Holds (state h.wal.disk) h n → Comes {A = ℕ × ℕ} result (state h.wal.disk)
    (state after.wal.disk) after n (OfLog n (Promotes n.log c.args.at_least result)) (LeftOf n (PromoteLeaves n.log c.args.at_least)) in
    subst From c.self.view_is (λ holds.
    of_log result (state before.wal.disk) (state after.wal.disk) before after n (Promotes n.log c.args.at_least result) (PromoteLeaves n.log c.args.at_least)
    (promotes n c.args.at_least result) holds c.promote.ensures.apart refl (c.promote.ensures.steps n.log holds.log))
