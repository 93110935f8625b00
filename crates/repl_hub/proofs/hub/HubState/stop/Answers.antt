-- Waits are cancelled, and that is remembered.
use Rattle.std.proofs.Common.{true, subst}
use Rattle.repl_hub.specs.Holding.{Goes, HeldHub, Holds}
use Rattle.repl_hub.specs.Waits.{IsStop}
use Rattle.repl_hub.proofs.Resting.{of_stop}
use Rattle.repl_node.specs.Steps.{SameLeft}
use Rattle.repl_hub.proofs.hub.HubState.stop.Goals as goal

pub returns-clause-steps : goal.returns-clause-steps
returns-clause-steps g c h =
    let state = g.D.Disk.state in
    let before : HeldHub g.row.D.Denot = record { node = c.self.inside.node; sync = c.self.inside.sync; links = c.self.inside.links.items; last = c.self.inside.last; stopped = c.self.inside.stopped } in
    let after : HeldHub g.row.D.Denot = record { node = before.node; sync = c.cancel_all.new.self; links = before.links; last = before.last; stopped = true } in
    let From : HeldHub g.row.D.Denot → Type 0 = λ k. Holds (state k.node.wal.disk) k h → Goes (state k.node.wal.disk)
    (state before.node.wal.disk) after h (IsStop h) (SameLeft h.node) in
    subst From c.self.view_is (λ holds.
    of_stop (state before.node.wal.disk) before c.cancel_all.new.self h (g.met.D.Disk.only_now before.node.wal.disk) holds
    c.cancel_all.ensures)
