-- The log's own call.
use Rattle.std.proofs.Common.{ℕ, refl, subst}
use Rattle.repl_wal.specs.Writing.{FlushLeaves, Flushes}
use Rattle.repl_node.specs.Holding.{Comes, HeldNode, Holds}
use Rattle.repl_node.specs.State.{LeftOf}
use Rattle.repl_node.specs.Steps.{OfLog}
use Rattle.repl_node.proofs.Passing.{of_log}
use Rattle.repl_node.proofs.Taming.{flushes}
use Rattle.repl_node.proofs.node.Node.flush.Goals as goal

pub returns-clause-steps : goal.returns-clause-steps
returns-clause-steps g c n =
    let state = g.D.Disk.state in
    let result = c.flush.result in
    let before : HeldNode g.row.D.Denot = record { wal = c.self.inside.wal; slots = c.self.inside.slots } in
    let after : HeldNode g.row.D.Denot = record { wal = c.flush.new.self; slots = c.self.inside.slots } in
    let From : HeldNode g.row.D.Denot → Type 0 = λ h. Holds (state h.wal.disk) h n → Comes {A = ℕ} result (state h.wal.disk)
    (state after.wal.disk) after n (OfLog n (Flushes n.log result)) (LeftOf n (FlushLeaves n.log)) in
    subst From c.self.view_is (λ holds.
    of_log result (state before.wal.disk) (state after.wal.disk) before after n (Flushes n.log result) (FlushLeaves n.log)
    (flushes n result) holds c.flush.ensures.apart refl (c.flush.ensures.steps n.log holds.log))
