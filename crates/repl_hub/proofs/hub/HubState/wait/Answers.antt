-- The ticket is judged, then whether anybody waits here, then whether the commit is certain here.
use Rattle.std.proofs.Common.{◌≡◌, Some, Err, rules, tests, subst}
use Rattle.repl_hub.specs.Holding.{Goes, HeldHub, Holds}
use Rattle.repl_hub.specs.Waits.{IsWait}
use Rattle.repl_hub.specs.declared.reply.WaitFault.TheVariants as fault
use Rattle.repl_hub.proofs.Nodes.{held_with}
use Rattle.repl_hub.proofs.Resting.{told_end, told_role}
use Rattle.repl_hub.proofs.Waiting.{begins, begins_cancelled, cancelled, not_flushed, unknown, waits}
use Rattle.repl_node.specs.Steps.{SameLeft}
use Rattle.repl_sync.specs.State.{Prepared, fate_of}
use Rattle.repl_hub.proofs.hub.HubState.wait.Goals as goal

pub returns-then-not-is_prepared-clause-steps : goal.returns-then-not-is_prepared-clause-steps
returns-then-not-is_prepared-clause-steps g c h =
    let state = g.D.Disk.state in
    let before : HeldHub g.row.D.Denot = record { node = c.self.inside.node; sync = c.self.inside.sync; links = c.self.inside.links.items; last = c.self.inside.last; stopped = c.self.inside.stopped } in
    let none : fate_of before.sync.tickets c.args.ticket ≡ Some Prepared → ⊥ = λ is. search (rules, tests) in
    let From : HeldHub g.row.D.Denot → Type 0 = λ k. Holds (state k.node.wal.disk) k h → Goes (state k.node.wal.disk)
    (state k.node.wal.disk) k h (IsWait h c.args.ticket c.args.end c.args.mode (Err fault.Unknown)) (SameLeft h.node) in
    subst From c.self.view_is (λ holds.
    unknown (state before.node.wal.disk) before h c.args.ticket c.args.end c.args.mode (g.met.D.Disk.only_now before.node.wal.disk) holds none)

pub returns-then-waits_for_none-clause-steps : goal.returns-then-waits_for_none-clause-steps
returns-then-waits_for_none-clause-steps g c h =
    let state = g.D.Disk.state in
    let before : HeldHub g.row.D.Denot = record { node = c.self.inside.node; sync = c.self.inside.sync; links = c.self.inside.links.items; last = c.self.inside.last; stopped = c.self.inside.stopped } in
    let prepared : fate_of before.sync.tickets c.args.ticket ≡ Some Prepared = search (rules, tests) in
    let From : HeldHub g.row.D.Denot → Type 0 = λ k. Holds (state k.node.wal.disk) k h → Goes (state k.node.wal.disk)
    (state before.node.wal.disk) (held_with before before.node c.wait_cancelled.new.self) h
    (IsWait h c.args.ticket c.args.end c.args.mode c.begun.result) (SameLeft h.node) in
    subst From c.self.view_is (λ holds.
    let disk = state before.node.wal.disk in
    cancelled disk before h c.args.ticket c.args.end c.args.mode (g.met.D.Disk.only_now before.node.wal.disk) holds prepared
    c.wait_cancelled.new.self c.begun.result c.identify-identity.result.role
    (told_role disk before h c.identify-identity.result holds c.identify-identity.ensures.told)
    (c.waits_for_none.ensures.none (search (rules, tests)))
    (begins_cancelled c.args.ticket before.sync c.wait_cancelled.new.self c.wait_cancelled.result c.begun.result prepared c.begun.ensures.ok
    c.wait_cancelled.ensures))

pub returns-then-end-identity-clause-steps : goal.returns-then-end-identity-clause-steps
returns-then-end-identity-clause-steps g c h =
    let state = g.D.Disk.state in
    let before : HeldHub g.row.D.Denot = record { node = c.self.inside.node; sync = c.self.inside.sync; links = c.self.inside.links.items; last = c.self.inside.last; stopped = c.self.inside.stopped } in
    let prepared : fate_of before.sync.tickets c.args.ticket ≡ Some Prepared = search (rules, tests) in
    let From : HeldHub g.row.D.Denot → Type 0 = λ k. Holds (state k.node.wal.disk) k h → Goes (state k.node.wal.disk)
    (state k.node.wal.disk) k h (IsWait h c.args.ticket c.args.end c.args.mode (Err (fault.NotFlushed c.identify-identity.result.flushed)))
    (SameLeft h.node) in
    subst From c.self.view_is (λ holds.
    let disk = state before.node.wal.disk in
    let identity = c.identify-identity.result in
    let told = c.identify-identity.ensures.told in
    not_flushed disk before h c.args.ticket c.args.end c.args.mode (g.met.D.Disk.only_now before.node.wal.disk) holds prepared
    identity.role identity.flushed (told_role disk before h identity holds told) (told_end disk before h identity holds told)
    (c.waits_for_none.ensures.some (search (rules, tests))) (search (rules, tests)))

pub returns-clause-steps : goal.returns-clause-steps
returns-clause-steps g c h =
    let state = g.D.Disk.state in
    let before : HeldHub g.row.D.Denot = record { node = c.self.inside.node; sync = c.self.inside.sync; links = c.self.inside.links.items; last = c.self.inside.last; stopped = c.self.inside.stopped } in
    let prepared : fate_of before.sync.tickets c.args.ticket ≡ Some Prepared = search (rules, tests) in
    let From : HeldHub g.row.D.Denot → Type 0 = λ k. Holds (state k.node.wal.disk) k h → Goes (state k.node.wal.disk)
    (state before.node.wal.disk) (held_with before before.node c.wait.new.self) h
    (IsWait h c.args.ticket c.args.end c.args.mode c.begun-2.result) (SameLeft h.node) in
    subst From c.self.view_is (λ holds.
    let disk = state before.node.wal.disk in
    let identity = c.identify-identity.result in
    let told = c.identify-identity.ensures.told in
    waits disk before h c.args.ticket c.args.end c.args.mode (g.met.D.Disk.only_now before.node.wal.disk) holds prepared
    identity.role identity.flushed (told_role disk before h identity holds told) (told_end disk before h identity holds told)
    (c.waits_for_none.ensures.some (search (rules, tests))) c.wait.new.self c.begun-2.result (search (rules, tests))
    (begins c.args.ticket c.args.end c.args.mode before.sync c.wait.new.self c.wait.result c.begun-2.result prepared c.begun-2.ensures.ok
    c.wait.ensures))
