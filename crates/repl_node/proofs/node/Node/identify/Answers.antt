-- The log that runs is right.
use Rattle.std.proofs.Common.{◌≡◌, false, subst}
use Rattle.repl_wal.specs.State.{IsLog}
use Rattle.repl_node.specs.Holding.{HeldNode, Remembers}
use Rattle.repl_node.proofs.node.Node.identify.Goals as goal

pub returns-clause-right : goal.returns-clause-right
returns-clause-right g c n =
    let held : HeldNode g.row.D.Denot = record { wal = c.self.inside.wal; slots = c.self.inside.slots } in
    let Right : HeldNode g.row.D.Denot → Type 0 = λ h. Remembers h n → n.log.broken ≡ false → IsLog n.log in
    let here : Right held = λ remembers sound. c.identify.ensures.right n.log remembers.log sound in
    subst Right c.self.view_is here
