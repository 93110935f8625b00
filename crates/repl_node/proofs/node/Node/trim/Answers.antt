-- The log's own trim, held back by what the slots hold.
use Rattle.std.proofs.Common.{◌≡◌, ℕ, refl, sym, ap, subst}
use Rattle.repl_slots.specs.Slot.{IsFloor}
use Rattle.repl_wal.specs.Keeping.{TrimLeaves, Trims}
use Rattle.repl_wal.specs.State.{LogState}
use Rattle.repl_node.specs.Holding.{Comes, HeldNode, Holds}
use Rattle.repl_node.specs.Keeping.{IsTrimmedNode, TrimLeavesNode}
use Rattle.repl_node.specs.State.{LeftOf, NodeState, with_log}
use Rattle.repl_node.specs.Steps.{OfLog}
use Rattle.repl_node.proofs.Passing.{comes_as, of_log}
use Rattle.repl_node.proofs.Taming.{trims}
use Rattle.repl_node.proofs.node.Node.trim.Goals as goal

pub returns-clause-steps : goal.returns-clause-steps
returns-clause-steps g c n =
    let state = g.D.Disk.state in
    let result = c.trim.result in
    let keep = c.args.keep in
    let least = c.floor_for.result in
    let before : HeldNode g.row.D.Denot = record { wal = c.self.inside.wal; slots = c.self.inside.slots } in
    let after : HeldNode g.row.D.Denot = record { wal = c.trim.new.self; slots = c.self.inside.slots } in
    let From : HeldNode g.row.D.Denot → Type 0 = λ h. Holds (state h.wal.disk) h n → Comes {A = ℕ} result (state h.wal.disk)
    (state after.wal.disk) after n (IsTrimmedNode n keep result) (TrimLeavesNode n keep) in
    subst From c.self.view_is (λ holds.
    let floor : IsFloor n.slots least = subst (λ slots. IsFloor slots least) holds.slots c.floor_for.ensures in
    comes_as result (state before.wal.disk) (state after.wal.disk) after n (OfLog n (Trims n.log least keep result))
    (IsTrimmedNode n keep result) (LeftOf n (TrimLeaves n.log least keep)) (TrimLeavesNode n keep) (λ m is. record {
      least = least;
      holds_back = floor;
      trimmed = subst (λ (l : LogState). Trims n.log least keep result l) (sym (ap (λ (k : NodeState). k.log) is.2)) is.1;
      rest = subst (λ (l : LogState). m ≡ with_log n l) (sym (ap (λ (k : NodeState). k.log) is.2)) is.2;
    }) (λ d saved left. ((least, floor, left.0), left.1))
    (of_log result (state before.wal.disk) (state after.wal.disk) before after n (Trims n.log least keep result)
    (TrimLeaves n.log least keep) (trims n least keep result) holds c.trim.ensures.apart refl (c.trim.ensures.steps n.log holds.log)))
