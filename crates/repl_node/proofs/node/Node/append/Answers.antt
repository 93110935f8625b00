-- The log's own call.
use Rattle.std.proofs.Common.{ℕ, refl, subst}
use Rattle.repl_wal.specs.Steps.{Old}
use Rattle.repl_wal.specs.Writing.{Appends}
use Rattle.repl_node.specs.Holding.{Comes, HeldNode, Holds}
use Rattle.repl_node.specs.State.{LeftOf}
use Rattle.repl_node.specs.Steps.{OfLog}
use Rattle.repl_node.proofs.Passing.{of_log}
use Rattle.repl_node.proofs.Taming.{appends}
use Rattle.repl_node.proofs.node.Node.append.Goals as goal

pub returns-clause-steps : goal.returns-clause-steps
returns-clause-steps g c n =
    let state = g.D.Disk.state in
    let result = c.append.result in
    let before : HeldNode g.row.D.Denot = record { wal = c.self.inside.wal; slots = c.self.inside.slots } in
    let after : HeldNode g.row.D.Denot = record { wal = c.append.new.self; slots = c.self.inside.slots } in
    let From : HeldNode g.row.D.Denot → Type 0 = λ h. Holds (state h.wal.disk) h n → Comes {A = ℕ} result (state h.wal.disk)
    (state after.wal.disk) after n (OfLog n (Appends n.log c.args.item.now result)) (LeftOf n (Old n.log)) in
    subst From c.self.view_is (λ holds.
    of_log result (state before.wal.disk) (state after.wal.disk) before after n (Appends n.log c.args.item.now result) (Old n.log)
    (appends n c.args.item.now result) holds c.append.ensures.apart refl (c.append.ensures.steps n.log holds.log))
