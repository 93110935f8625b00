-- Its slots are nobody's, and the connection is gone.
use Rattle.std.proofs.Common.{◌≡◌, Ok, Err, subst}
use Rattle.repl_hub.specs.Holding.{Goes, HeldHub, Holds}
use Rattle.repl_hub.specs.Sessions.{IsDisconnect}
use Rattle.repl_hub.proofs.Connecting.{disconnected, kept_without, linked, not_disconnected}
use Rattle.repl_hub.proofs.Nodes.{over_any, untold}
use Rattle.repl_node.specs.State.{NodeState, with_slots}
use Rattle.repl_node.specs.Steps.{SameLeft}
use Rattle.repl_slots.specs.Slot.{ended}
use Rattle.repl_hub.proofs.hub.HubState.disconnect.Goals as goal

pub invariant_of-self : goal.invariant_of-self
invariant_of-self g c =
    let state = g.D.Disk.state in
    let before : HeldHub g.row.D.Denot = record { node = c.self.inside.node; sync = c.self.inside.sync; links = c.self.inside.links.items; last = c.self.inside.last; stopped = c.self.inside.stopped } in
    let n : NodeState = untold c.self.invariant.node in
    kept_without (state before.node.wal.disk) (state c.slot_end_session.new.self.wal.disk) before c.slot_end_session.new.self
    c.disconnect.new.self c.unlink.new.links.items c.args.session c.self.invariant (λ m. m ≡ with_slots n (ended c.args.session n.slots))
    c.unlink.ensures c.in-Ok.ensures
    (c.slot_end_session.ensures.steps n (over_any (state before.node.wal.disk) before.node c.self.invariant.node c.self.invariant.remembers))

pub returns-in-Ok-clause-steps : goal.returns-in-Ok-clause-steps
returns-in-Ok-clause-steps g c h =
    let state = g.D.Disk.state in
    let before : HeldHub g.row.D.Denot = record { node = c.self.inside.node; sync = c.self.inside.sync; links = c.self.inside.links.items; last = c.self.inside.last; stopped = c.self.inside.stopped } in
    let after = c.slot_end_session.new.self in
    let held : HeldHub g.row.D.Denot = record { node = after; sync = c.disconnect.new.self; links = c.unlink.new.links.items; last = before.last; stopped = before.stopped } in
    let From : HeldHub g.row.D.Denot → Type 0 = λ k. Holds (state k.node.wal.disk) k h → Goes (state k.node.wal.disk)
    (state after.wal.disk) held h (IsDisconnect h c.args.session (Ok tt)) (SameLeft h.node) in
    subst From c.self.view_is (λ holds.
    disconnected (state before.node.wal.disk) (state after.wal.disk) before h holds c.args.session after c.disconnect.new.self
    c.unlink.new.links.items c.unlink.ensures c.in-Ok.ensures (c.slot_end_session.ensures.steps h.node holds.node))

pub returns-in-Err-clause-steps : goal.returns-in-Err-clause-steps
returns-in-Err-clause-steps g c h =
    let state = g.D.Disk.state in
    let before : HeldHub g.row.D.Denot = record { node = c.self.inside.node; sync = c.self.inside.sync; links = c.self.inside.links.items; last = c.self.inside.last; stopped = c.self.inside.stopped } in
    let From : HeldHub g.row.D.Denot → Type 0 = λ k. Holds (state k.node.wal.disk) k h → Goes (state k.node.wal.disk)
    (state before.node.wal.disk) (linked before c.disconnect.new.self before.links before.last) h
    (IsDisconnect h c.args.session (Err c.in-Err.fault)) (SameLeft h.node) in
    subst From c.self.view_is (λ holds.
    not_disconnected (state before.node.wal.disk) before h c.args.session c.disconnect.new.self c.in-Err.fault
    (g.met.D.Disk.only_now before.node.wal.disk) holds c.in-Err.ensures)
