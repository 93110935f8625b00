-- A step of sessions and tickets.
use Rattle.std.proofs.Common.{subst}
use Rattle.repl_hub.specs.Holding.{Goes, HeldHub, Holds}
use Rattle.repl_hub.specs.Sessions.{IsStopStreaming}
use Rattle.repl_hub.proofs.Nodes.{held_with, kept_sync}
use Rattle.repl_hub.proofs.Numbers.{of_stop}
use Rattle.repl_hub.proofs.Resting.{of_sync}
use Rattle.repl_node.specs.Steps.{SameLeft}
use Rattle.repl_sync.specs.Sync as sync
use Rattle.repl_sync.specs.Sync.{done}
use Rattle.repl_hub.proofs.hub.HubState.stop_streaming.Goals as goal

pub invariant_of-self : goal.invariant_of-self
invariant_of-self g c =
    let before : HeldHub g.row.D.Denot = record { node = c.self.inside.node; sync = c.self.inside.sync; links = c.self.inside.links.items; last = c.self.inside.last; stopped = c.self.inside.stopped } in
    kept_sync before c.stop_streaming.new.self c.self.invariant (of_stop c.self.inside.sync c.stop_streaming.new.self c.args.session c.stop_streaming.result c.stop_streaming.ensures)

pub returns-clause-steps : goal.returns-clause-steps
returns-clause-steps g c h =
    let state = g.D.Disk.state in
    let before : HeldHub g.row.D.Denot = record { node = c.self.inside.node; sync = c.self.inside.sync; links = c.self.inside.links.items; last = c.self.inside.last; stopped = c.self.inside.stopped } in
    let From : HeldHub g.row.D.Denot → Type 0 = λ k. Holds (state k.node.wal.disk) k h → Goes (state k.node.wal.disk)
    (state before.node.wal.disk) (held_with before before.node c.stop_streaming.new.self) h (IsStopStreaming h c.args.session c.stop_streaming.result) (SameLeft h.node) in
    subst From c.self.view_is (λ holds.
    of_sync (state before.node.wal.disk) before c.stop_streaming.new.self (sync.StopStreaming c.args.session) (done c.stop_streaming.result) h
    (g.met.D.Disk.only_now before.node.wal.disk) holds c.stop_streaming.ensures)
