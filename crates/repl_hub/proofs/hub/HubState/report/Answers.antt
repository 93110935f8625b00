-- No position counts past the flushed end.
use Rattle.std.proofs.Common.{subst}
use Rattle.repl_hub.specs.Holding.{Goes, HeldHub, Holds}
use Rattle.repl_hub.specs.Sessions.{IsReport}
use Rattle.repl_hub.proofs.Nodes.{held_with, kept_sync}
use Rattle.repl_hub.proofs.Numbers.{of_report as numbers_past}
use Rattle.repl_hub.proofs.Resting.{of_report, told_end}
use Rattle.repl_node.specs.Steps.{SameLeft}
use Rattle.repl_hub.proofs.hub.HubState.report.Goals as goal

pub invariant_of-self : goal.invariant_of-self
invariant_of-self g c =
    let before : HeldHub g.row.D.Denot = record { node = c.self.inside.node; sync = c.self.inside.sync; links = c.self.inside.links.items; last = c.self.inside.last; stopped = c.self.inside.stopped } in
    kept_sync before c.report.new.self c.self.invariant (numbers_past c.self.inside.sync c.report.new.self c.args.session _ _ _ c.report.result c.report.ensures)

pub returns-clause-steps : goal.returns-clause-steps
returns-clause-steps g c h =
    let state = g.D.Disk.state in
    let before : HeldHub g.row.D.Denot = record { node = c.self.inside.node; sync = c.self.inside.sync; links = c.self.inside.links.items; last = c.self.inside.last; stopped = c.self.inside.stopped } in
    let From : HeldHub g.row.D.Denot → Type 0 = λ k. Holds (state k.node.wal.disk) k h → Goes (state k.node.wal.disk)
    (state before.node.wal.disk) (held_with before before.node c.report.new.self) h
    (IsReport h c.args.session c.args.written c.args.flushed c.args.applied c.report.result) (SameLeft h.node) in
    subst From c.self.view_is (λ holds.
    of_report (state before.node.wal.disk) before c.report.new.self h c.args.session c.args.written c.args.flushed c.args.applied _ _ _
    c.identify-end.result.flushed c.report.result (g.met.D.Disk.only_now before.node.wal.disk) holds
    (told_end (state before.node.wal.disk) before h c.identify-end.result holds c.identify-end.ensures.told)
    c.lesser.ensures c.lesser-2.ensures c.lesser-3.ensures c.report.ensures)
