-- A step is made in some state, over every disk.
use Rattle.std.proofs.Common.{subst}
use Rattle.repl_hub.specs.Holding.{IsKept}
use Rattle.repl_hub.specs.Leaving.{HubLeaves}
use Rattle.repl_hub.specs.Step.{HubStep}
use Rattle.repl_hub.proofs.Nodes.{gives_some}
use Rattle.repl_hub.proofs.hub.HubState.step.Goals as goal

pub returns-clause-gives : goal.returns-clause-gives
returns-clause-gives g c =
    let state = g.D.Disk.state in
    let before = c.args.self.now in
    let after = c.make.new.self in
    let kept : IsKept {D = g.row.D.Denot} before = subst (IsKept {D = g.row.D.Denot}) c.self.view_is c.self.invariant in
    gives_some (state before.node.wal.disk) (state after.node.wal.disk) before after kept
    (λ h m. HubStep h c.args.event c.make.result m) (λ h. HubLeaves h c.args.event) c.make.ensures.steps
