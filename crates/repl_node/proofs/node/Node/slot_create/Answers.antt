-- Only the list changes.
use Rattle.std.proofs.Common.{refl, subst, ◌++◌, ◌∷◌, []}
use Rattle.repl_slots.specs.Slot.{made}
use Rattle.repl_node.specs.Holding.{Goes, HeldNode, Holds}
use Rattle.repl_node.specs.Steps.{OfSlots, SameLeft}
use Rattle.repl_node.proofs.Listing.{answered}
use Rattle.repl_node.proofs.node.Node.slot_create.Goals as goal

pub returns-clause-steps : goal.returns-clause-steps
returns-clause-steps g c n =
    let state = g.D.Disk.state in
    let before : HeldNode g.row.D.Denot = record { wal = c.self.inside.wal; slots = c.self.inside.slots } in
    let after : HeldNode g.row.D.Denot = record { wal = c.self.inside.wal; slots = c.create.new.self } in
    let From : HeldNode g.row.D.Denot → Type 0 = λ h. Holds (state h.wal.disk) h n → Goes (state h.wal.disk)
    (state after.wal.disk) after n (OfSlots n (n.slots ++ made c.args.name.now c.args.temporary c.args.session c.args.restart ∷ []) c.create.result) (SameLeft n) in
    subst From c.self.view_is (λ holds.
    answered c.create.result (state before.wal.disk) before after n (λ slots. slots ++ made c.args.name.now c.args.temporary c.args.session c.args.restart ∷ [])
    (g.met.D.Disk.only_now before.wal.disk) holds refl c.create.ensures.done c.create.ensures.refused)
