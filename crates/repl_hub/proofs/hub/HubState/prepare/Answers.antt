-- A step of sessions and tickets.
use Rattle.std.proofs.Common.{subst}
use Rattle.repl_hub.specs.Holding.{Goes, HeldHub, Holds}
use Rattle.repl_hub.specs.Waits.{IsPrepare}
use Rattle.repl_hub.proofs.Nodes.{held_with}
use Rattle.repl_hub.proofs.Resting.{of_sync}
use Rattle.repl_node.specs.Steps.{SameLeft}
use Rattle.repl_sync.specs.Sync as sync
use Rattle.repl_sync.specs.Sync.{given}
use Rattle.repl_hub.proofs.hub.HubState.prepare.Goals as goal

pub returns-clause-steps : goal.returns-clause-steps
returns-clause-steps g c h =
    let state = g.D.Disk.state in
    let before : HeldHub g.row.D.Denot = record { node = c.self.inside.node; sync = c.self.inside.sync; links = c.self.inside.links.items; last = c.self.inside.last; stopped = c.self.inside.stopped } in
    let From : HeldHub g.row.D.Denot → Type 0 = λ k. Holds (state k.node.wal.disk) k h → Goes (state k.node.wal.disk)
    (state before.node.wal.disk) (held_with before before.node c.prepare.new.self) h (IsPrepare h c.prepare.result) (SameLeft h.node) in
    subst From c.self.view_is (λ holds.
    of_sync (state before.node.wal.disk) before c.prepare.new.self (sync.Prepare) (given c.prepare.result) h
    (g.met.D.Disk.only_now before.node.wal.disk) holds c.prepare.ensures)
