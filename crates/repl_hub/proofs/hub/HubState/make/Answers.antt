-- A question leaves the hub as it is.
use Rattle.std.proofs.Common.{◌≡◌, ℕ, List, rules, refl, sym, ap, subst}
use Rattle.repl_hub.specs.Holding.{Goes, HeldHub, Holds}
use Rattle.repl_hub.specs.Leaving.{HubLeaves}
use Rattle.repl_hub.specs.Log.{IsReceive}
use Rattle.repl_hub.specs.Step.{HubStep}
use Rattle.repl_hub.specs.Waits.{IsSetNames}
use Rattle.repl_hub.specs.declared.event.HubEvent.{HubEvent}
use Rattle.repl_hub.specs.declared.event.HubEvent.TheVariants as event
use Rattle.repl_hub.specs.declared.reply.HubReply.TheVariants as reply
use Rattle.repl_hub.proofs.Nodes.{remembered}
use Rattle.repl_hub.proofs.Resting.{stays, wider}
use Rattle.repl_node.specs.Steps.{SameLeft}
use Rattle.repl_hub.proofs.hub.HubState.make.Goals as goal

pub returns-in-Identify-clause-steps : goal.returns-in-Identify-clause-steps
returns-in-Identify-clause-steps g c h =
    let state = g.D.Disk.state in
    let before : HeldHub g.row.D.Denot = record { node = c.self.inside.node; sync = c.self.inside.sync; links = c.self.inside.links.items; last = c.self.inside.last; stopped = c.self.inside.stopped } in
    let answer = reply.Identify c.identify.result in
    let From : HeldHub g.row.D.Denot → Type 0 = λ k. Holds (state k.node.wal.disk) k h → Goes (state k.node.wal.disk)
    (state k.node.wal.disk) k h (HubStep h c.args.event answer) (HubLeaves h c.args.event) in
    subst From c.self.view_is (λ holds.
    let disk = state before.node.wal.disk in
    subst (λ (e : HubEvent). Goes disk disk before h (HubStep h e answer) (HubLeaves h e)) (sym c.in-Identify.is)
    (stays disk before h (HubStep h event.Identify answer) (g.met.D.Disk.only_now before.node.wal.disk) holds
    (ap reply.Identify (c.identify.ensures.told h.node (remembered disk before.node h.node holds.node)), refl)))

pub returns-in-Status-clause-steps : goal.returns-in-Status-clause-steps
returns-in-Status-clause-steps g c h holds =
    let held = c.args.self.now in
    let disk = g.D.Disk.state held.node.wal.disk in
    let answer = reply.Status c.status.result in
    subst (λ (e : HubEvent). Goes disk disk held h (HubStep h e answer) (HubLeaves h e)) (sym c.in-Status.is)
    (stays disk held h (HubStep h event.Status answer) (g.met.D.Disk.only_now held.node.wal.disk) holds
    (ap reply.Status (c.status.ensures h holds), refl))

pub returns-in-SlotRead-clause-steps : goal.returns-in-SlotRead-clause-steps
returns-in-SlotRead-clause-steps g c h holds =
    let held = c.args.self.now in
    let disk = g.D.Disk.state held.node.wal.disk in
    let answer = reply.SlotRead c.slot_read.result in
    subst (λ (e : HubEvent). Goes disk disk held h (HubStep h e answer) (HubLeaves h e)) (sym c.in-SlotRead.is)
    (stays disk held h (HubStep h (event.SlotRead c.in-SlotRead.name) answer) (g.met.D.Disk.only_now held.node.wal.disk) holds
    (ap reply.SlotRead (c.slot_read.ensures h holds), refl))

pub returns-in-Names-clause-steps : goal.returns-in-Names-clause-steps
returns-in-Names-clause-steps g c h holds =
    let held = c.args.self.now in
    let disk = g.D.Disk.state held.node.wal.disk in
    let answer = reply.Names c.names.result in
    subst (λ (e : HubEvent). Goes disk disk held h (HubStep h e answer) (HubLeaves h e)) (sym c.in-Names.is)
    (stays disk held h (HubStep h event.Names answer) (g.met.D.Disk.only_now held.node.wal.disk) holds
    (c.names.result, refl, (c.names.ensures h holds, refl)))

pub returns-in-SetNames-clause-steps : goal.returns-in-SetNames-clause-steps
returns-in-SetNames-clause-steps g c h holds =
    let state = g.D.Disk.state in
    let held = c.set_names.new.self in
    let old = state c.args.self.now.node.wal.disk in
    let new = state held.node.wal.disk in
    let result = c.set_names.result in
    let list = c.in-SetNames.list in
    subst (λ (e : HubEvent). Goes old new held h (HubStep h e (reply.SetNames result)) (HubLeaves h e)) (sym c.in-SetNames.is)
    (wider old new held h (IsSetNames h list result) (HubStep h (event.SetNames list) (reply.SetNames result)) (SameLeft h.node)
    (λ m is. (result, refl, is)) (c.set_names.ensures.steps h holds))

pub returns-in-Receive-clause-steps : goal.returns-in-Receive-clause-steps
returns-in-Receive-clause-steps g c h holds =
    let state = g.D.Disk.state in
    let held = c.receive.new.self in
    let old = state c.args.self.now.node.wal.disk in
    let new = state held.node.wal.disk in
    let result = c.receive.result in
    let tli = c.in-Receive.tli in
    let start = c.in-Receive.start in
    let bytes = c.in-Receive.bytes in
    let same : c.deref.result.now ≡ bytes = search rules in
    let goes = (c.receive.ensures.steps h holds).goes in
    subst (λ (e : HubEvent). Goes old new held h (HubStep h e (reply.Receive result)) (HubLeaves h e)) (sym c.in-Receive.is)
    (wider old new held h (IsReceive h tli start c.deref.result.now result) (HubStep h (event.Receive tli start bytes) (reply.Receive result)) (SameLeft h.node)
    (λ m is. (result, refl, subst (λ (b : List ℕ). IsReceive h tli start b result m) same is)) goes)
