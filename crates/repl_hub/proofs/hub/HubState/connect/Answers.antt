-- A `Stop` is told first, and then that there is no room.
use Rattle.std.proofs.Common.{◌≡◌, true, false, Err, rules, tests, subst}
use Rattle.repl_hub.specs.Holding.{Goes, HeldHub, Holds}
use Rattle.repl_hub.specs.Sessions.{HasRoom, IsConnect}
use Rattle.repl_hub.specs.State.{count_kind}
use Rattle.repl_hub.specs.declared.reply.ConnectFault.TheVariants as connect
use Rattle.repl_hub.proofs.Connecting.{has_room, stopped, too_many}
use Rattle.repl_node.specs.Steps.{SameLeft}
use Rattle.repl_hub.proofs.hub.HubState.connect.Goals as goal

pub returns-then-self-clause-steps : goal.returns-then-self-clause-steps
returns-then-self-clause-steps g c h =
    let state = g.D.Disk.state in
    let before : HeldHub g.row.D.Denot = record { node = c.self.inside.node; sync = c.self.inside.sync; links = c.self.inside.links.items; last = c.self.inside.last; stopped = c.self.inside.stopped } in
    let is : before.stopped ≡ true = search (rules, tests) in
    let From : HeldHub g.row.D.Denot → Type 0 = λ k. Holds (state k.node.wal.disk) k h → Goes (state k.node.wal.disk)
    (state k.node.wal.disk) k h (IsConnect h c.args.name.now c.args.replication (Err connect.Stopped)) (SameLeft h.node) in
    subst From c.self.view_is (λ holds.
    stopped (state before.node.wal.disk) before h (g.met.D.Disk.only_now before.node.wal.disk) holds c.args.name.now c.args.replication is)

pub returns-then-is_full-clause-steps : goal.returns-then-is_full-clause-steps
returns-then-is_full-clause-steps g c h =
    let state = g.D.Disk.state in
    let before : HeldHub g.row.D.Denot = record { node = c.self.inside.node; sync = c.self.inside.sync; links = c.self.inside.links.items; last = c.self.inside.last; stopped = c.self.inside.stopped } in
    let runs : before.stopped ≡ false = search (rules, tests) in
    let counted : c.count_kind-there.result ≡ count_kind c.args.replication before.links = search rules in
    let From : HeldHub g.row.D.Denot → Type 0 = λ k. Holds (state k.node.wal.disk) k h → Goes (state k.node.wal.disk)
    (state k.node.wal.disk) k h (IsConnect h c.args.name.now c.args.replication (Err (connect.TooMany c.count_kind-there.result))) (SameLeft h.node) in
    subst From c.self.view_is (λ holds.
    too_many (state before.node.wal.disk) before h (g.met.D.Disk.only_now before.node.wal.disk) holds c.args.name.now c.args.replication
    runs c.count_kind-there.result counted (c.is_full.ensures.full (search (rules, tests))))

pub returns-clause-steps : goal.returns-clause-steps
returns-clause-steps g c h =
    let state = g.D.Disk.state in
    let before : HeldHub g.row.D.Denot = record { node = c.self.inside.node; sync = c.self.inside.sync; links = c.self.inside.links.items; last = c.self.inside.last; stopped = c.self.inside.stopped } in
    let runs : before.stopped ≡ false = search (rules, tests) in
    let counted : c.count_kind-there.result ≡ count_kind c.args.replication before.links = search rules in
    let room = c.is_full.ensures.room (search (rules, tests)) in
    let From : HeldHub g.row.D.Denot → Type 0 = λ k. Holds (state k.node.wal.disk) k h → HasRoom h c.args.replication in
    let has : From c.args.self.now = subst From c.self.view_is (λ holds.
    has_room (state before.node.wal.disk) before h (g.met.D.Disk.only_now before.node.wal.disk) holds c.args.name.now c.args.replication
    runs c.count_kind-there.result counted room) in
    λ holds. c.admit.ensures.steps h holds (has holds)
