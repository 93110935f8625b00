-- On the own timeline a step of the sessions, and on another none.
use Rattle.std.proofs.Common.{◌≡◌, ◌≢◌, ◌∙◌, List, inl, inr, rules, sym, ap, refl, subst}
use Rattle.repl_hub.specs.Holding.{Goes, HeldHub, Holds}
use Rattle.repl_hub.specs.Sessions.{IsStreaming, KnowsLink, OfSync}
use Rattle.repl_hub.specs.State.{HubView}
use Rattle.repl_hub.specs.declared.link.Link.{Link}
use Rattle.repl_hub.proofs.Nodes.{held_with, kept_sync}
use Rattle.repl_hub.proofs.Numbers.{of_streaming}
use Rattle.repl_hub.proofs.Resting.{of_sync, stays, told_own, wider}
use Rattle.repl_node.specs.Steps.{SameLeft}
use Rattle.repl_sync.specs.Sync as sync
use Rattle.repl_sync.specs.Sync.{done}
use Rattle.repl_hub.proofs.hub.HubState.streaming.Goals as goal

pub invariant_of-self : goal.invariant_of-self
invariant_of-self g c =
    let before : HeldHub g.row.D.Denot = record { node = c.self.inside.node; sync = c.self.inside.sync; links = c.self.inside.links.items; last = c.self.inside.last; stopped = c.self.inside.stopped } in
    kept_sync before c.streaming.new.self c.self.invariant
    (of_streaming c.self.inside.sync c.streaming.new.self c.args.session c.streaming.result c.streaming.ensures)

pub returns-then-eq-clause-steps : goal.returns-then-eq-clause-steps
returns-then-eq-clause-steps g c h =
    let state = g.D.Disk.state in
    let before : HeldHub g.row.D.Denot = record { node = c.self.inside.node; sync = c.self.inside.sync; links = c.self.inside.links.items; last = c.self.inside.last; stopped = c.self.inside.stopped } in
    let own : c.identify.result.tli ≡ c.args.tli = search rules in
    let From : HeldHub g.row.D.Denot → Type 0 = λ k. Holds (state k.node.wal.disk) k h → Goes (state k.node.wal.disk)
    (state before.node.wal.disk) (held_with before before.node c.streaming.new.self) h
    (IsStreaming h c.args.session c.args.tli c.streaming.result) (SameLeft h.node) in
    subst From c.self.view_is (λ holds.
    let disk = state before.node.wal.disk in
    let after = held_with before before.node c.streaming.new.self in
    wider disk disk after h (OfSync h (sync.Streaming c.args.session) (done c.streaming.result))
    (IsStreaming h c.args.session c.args.tli c.streaming.result) (SameLeft h.node)
    (λ m step. inl (sym own ∙ told_own disk before h c.identify.result holds c.identify.ensures.told, step))
    (of_sync disk before c.streaming.new.self (sync.Streaming c.args.session) (done c.streaming.result) h
    (g.met.D.Disk.only_now before.node.wal.disk) holds c.streaming.ensures))

pub returns-else-eq-clause-steps : goal.returns-else-eq-clause-steps
returns-else-eq-clause-steps g c h =
    let state = g.D.Disk.state in
    let before : HeldHub g.row.D.Denot = record { node = c.self.inside.node; sync = c.self.inside.sync; links = c.self.inside.links.items; last = c.self.inside.last; stopped = c.self.inside.stopped } in
    let other : c.identify.result.tli ≢ c.args.tli = λ is. search rules in
    let known : KnowsLink before.links c.args.session c.knows.result = search rules in
    let From : HeldHub g.row.D.Denot → Type 0 = λ k. Holds (state k.node.wal.disk) k h → Goes (state k.node.wal.disk)
    (state k.node.wal.disk) k h (IsStreaming h c.args.session c.args.tli c.knows.result) (SameLeft h.node) in
    subst From c.self.view_is (λ holds.
    let disk = state before.node.wal.disk in
    let own = told_own disk before h c.identify.result holds c.identify.ensures.told in
    stays disk before h (IsStreaming h c.args.session c.args.tli c.knows.result) (g.met.D.Disk.only_now before.node.wal.disk) holds
    (inr (
      λ is. other (own ∙ sym is),
      subst (λ (links : List Link). KnowsLink links c.args.session c.knows.result) (sym (ap (λ (k : HubView). k.links) holds.is)) known,
      refl,
    )))
