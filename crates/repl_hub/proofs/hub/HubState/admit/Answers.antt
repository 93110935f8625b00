-- The session has the next number, or there was no memory.
use Rattle.std.proofs.Common.{ℕ, ◌+◌, ◌++◌, ◌∷◌, [], ◌∙◌, List, Ok, Err, ap, refl, subst}
use Rattle.repl_hub.specs.Holding.{Goes, HeldHub, Holds}
use Rattle.repl_hub.specs.Sessions.{HasRoom, IsConnect}
use Rattle.repl_hub.specs.declared.reply.ConnectFault.TheVariants as connect
use Rattle.repl_hub.proofs.Connecting.{connected, linked, unconnected}
use Rattle.repl_node.specs.Steps.{SameLeft}
use Rattle.repl_hub.proofs.hub.HubState.admit.Goals as goal

pub returns-in-Err-clause-steps : goal.returns-in-Err-clause-steps
returns-in-Err-clause-steps g c h =
    let state = g.D.Disk.state in
    let before : HeldHub g.row.D.Denot = record { node = c.self.inside.node; sync = c.self.inside.sync; links = c.self.inside.links.items; last = c.self.inside.last; stopped = c.self.inside.stopped } in
    let From : HeldHub g.row.D.Denot → Type 0 = λ k. Holds (state k.node.wal.disk) k h → HasRoom h c.args.replication
    → Goes (state k.node.wal.disk) (state before.node.wal.disk) (linked before before.sync c.reserve.new.self.items before.last) h
    (IsConnect h c.args.name.now c.args.replication (Err connect.Memory)) (SameLeft h.node) in
    subst From c.self.view_is (λ holds room.
    unconnected (state before.node.wal.disk) before h (g.met.D.Disk.only_now before.node.wal.disk) holds c.args.name.now
    c.args.replication room before.sync c.reserve.new.self.items refl c.reserve.ensures.items)

pub returns-in-Ok-connect-clause-steps : goal.returns-in-Ok-connect-clause-steps
returns-in-Ok-connect-clause-steps g c h =
    let state = g.D.Disk.state in
    let before : HeldHub g.row.D.Denot = record { node = c.self.inside.node; sync = c.self.inside.sync; links = c.self.inside.links.items; last = c.self.inside.last; stopped = c.self.inside.stopped } in
    let Named : List ℕ → Type 0 = λ nm. Goes (state before.node.wal.disk) (state before.node.wal.disk)
    (linked before c.connect.new.self c.push_reserved.new.self.items (before.last + 1)) h (IsConnect h nm c.args.replication (Ok (before.last + 1))) (SameLeft h.node) in
    let From : HeldHub g.row.D.Denot → Type 0 = λ k. Holds (state k.node.wal.disk) k h → HasRoom h c.args.replication
    → Goes (state k.node.wal.disk) (state before.node.wal.disk)
    (linked before c.connect.new.self c.push_reserved.new.self.items (before.last + 1)) h
    (IsConnect h c.args.name.now c.args.replication (Ok (before.last + 1))) (SameLeft h.node) in
    subst From c.self.view_is (λ holds room. subst Named c.as_slice.ensures.value
    (connected (state before.node.wal.disk) before h (g.met.D.Disk.only_now before.node.wal.disk) holds c.as_slice.result.now
    c.args.replication room c.connect.new.self c.push_reserved.new.self.items
    (c.push_reserved.ensures.items ∙ ap (λ items. items ++ record { number = before.last + 1; replication = c.args.replication } ∷ []) c.reserve.ensures.items)
    c.in-Ok-connect.ensures))

pub returns-in-Err-connect-clause-steps : goal.returns-in-Err-connect-clause-steps
returns-in-Err-connect-clause-steps g c h =
    let state = g.D.Disk.state in
    let before : HeldHub g.row.D.Denot = record { node = c.self.inside.node; sync = c.self.inside.sync; links = c.self.inside.links.items; last = c.self.inside.last; stopped = c.self.inside.stopped } in
    let From : HeldHub g.row.D.Denot → Type 0 = λ k. Holds (state k.node.wal.disk) k h → HasRoom h c.args.replication
    → Goes (state k.node.wal.disk) (state before.node.wal.disk) (linked before c.connect.new.self c.reserve.new.self.items before.last) h
    (IsConnect h c.args.name.now c.args.replication (Err connect.Memory)) (SameLeft h.node) in
    subst From c.self.view_is (λ holds room.
    unconnected (state before.node.wal.disk) before h (g.met.D.Disk.only_now before.node.wal.disk) holds c.args.name.now
    c.args.replication room c.connect.new.self c.reserve.new.self.items c.in-Err-connect.ensures.1 c.reserve.ensures.items)
