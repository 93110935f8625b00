-- Only the list changes.
use Rattle.std.proofs.Common.{◌≡◌, refl, subst}
use Rattle.repl_slots.specs.Slot.{ended}
use Rattle.repl_node.specs.Holding.{Goes, HeldNode, Holds}
use Rattle.repl_node.specs.State.{with_slots}
use Rattle.repl_node.specs.Steps.{SameLeft}
use Rattle.repl_node.proofs.Listing.{changed}
use Rattle.repl_node.proofs.node.Node.slot_end_session.Goals as goal

pub returns-clause-steps : goal.returns-clause-steps
returns-clause-steps g c n =
    let state = g.D.Disk.state in
    let before : HeldNode g.row.D.Denot = record { wal = c.self.inside.wal; slots = c.self.inside.slots } in
    let after : HeldNode g.row.D.Denot = record { wal = c.self.inside.wal; slots = c.end_session.new.self } in
    let From : HeldNode g.row.D.Denot → Type 0 = λ h. Holds (state h.wal.disk) h n → Goes (state h.wal.disk)
    (state after.wal.disk) after n (λ m. m ≡ with_slots n (ended c.args.session n.slots)) (SameLeft n) in
    subst From c.self.view_is (λ holds.
    changed (state before.wal.disk) before after n (λ slots. ended c.args.session slots)
    (g.met.D.Disk.only_now before.wal.disk) holds refl c.end_session.ensures)
