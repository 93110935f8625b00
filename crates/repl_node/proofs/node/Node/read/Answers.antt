-- The log's own call.
use Rattle.std.proofs.Common.{refl, subst}
use Rattle.repl_wal.specs.Reading.{Reads}
use Rattle.repl_wal.specs.Steps.{Old}
use Rattle.repl_wal.specs.declared.read.ReadOut.{ReadOut}
use Rattle.repl_node.specs.Holding.{Comes, HeldNode, Holds}
use Rattle.repl_node.specs.State.{LeftOf}
use Rattle.repl_node.specs.Steps.{OfLog}
use Rattle.repl_node.proofs.Passing.{of_log}
use Rattle.repl_node.proofs.Taming.{reads}
use Rattle.repl_node.proofs.node.Node.read.Goals as goal

pub returns-clause-steps : goal.returns-clause-steps
returns-clause-steps g c n =
    let state = g.D.Disk.state in
    let result = c.read.result in
    let before : HeldNode g.row.D.Denot = record { wal = c.self.inside.wal; slots = c.self.inside.slots } in
    let after : HeldNode g.row.D.Denot = record { wal = c.read.new.self; slots = c.self.inside.slots } in
    let From : HeldNode g.row.D.Denot → Type 0 = λ h. Holds (state h.wal.disk) h n → Comes {A = ReadOut} result (state h.wal.disk)
    (state after.wal.disk) after n (OfLog n (Reads n.log c.args.tli c.args.at c.args.room.now c.read.new.room result)) (LeftOf n (Old n.log)) in
    subst From c.self.view_is (λ holds.
    of_log result (state before.wal.disk) (state after.wal.disk) before after n (Reads n.log c.args.tli c.args.at c.args.room.now c.read.new.room result) (Old n.log)
    (reads n c.args.tli c.args.at c.args.room.now c.read.new.room result) holds c.read.ensures.apart refl (c.read.ensures.steps n.log holds.log))
