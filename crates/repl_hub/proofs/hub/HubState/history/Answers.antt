-- The node's own text.
use Rattle.std.proofs.Common.{ℕ, List, subst}
use Rattle.repl_hub.specs.Holding.{Comes, HeldHub, Holds}
use Rattle.repl_hub.specs.Log.{IsHistory}
use Rattle.repl_hub.proofs.Nodes.{remembered}
use Rattle.repl_hub.proofs.Reading.{history_comes, history_told, no_failure}
use Rattle.repl_node.specs.Steps.{SameLeft}
use Rattle.repl_hub.proofs.hub.HubState.history.Goals as goal

pub returns-clause-steps : goal.returns-clause-steps
returns-clause-steps g c h =
    let state = g.D.Disk.state in
    let before : HeldHub g.row.D.Denot = record { node = c.self.inside.node; sync = c.self.inside.sync; links = c.self.inside.links.items; last = c.self.inside.last; stopped = c.self.inside.stopped } in
    let result = c.shared_text.result in
    let From : HeldHub g.row.D.Denot → Type 0 = λ k. Holds (state k.node.wal.disk) k h → Comes {A = List ℕ} result (state k.node.wal.disk)
    (state k.node.wal.disk) k h (IsHistory h c.args.tli result) (SameLeft h.node) in
    subst From c.self.view_is (λ holds.
    let disk = state before.node.wal.disk in
    let told = history_told (λ t. t.items) h.node.log c.args.tli c.history.result result
    (c.history.ensures h.node (remembered disk before.node h.node holds.node)) c.shared_text.ensures in
    history_comes disk before h c.args.tli result (g.met.D.Disk.only_now before.node.wal.disk) holds told
    (no_failure h.node.log c.args.tli result told))
