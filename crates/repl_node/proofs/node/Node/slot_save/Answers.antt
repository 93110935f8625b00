-- Saved, or not for want of memory, or broken from here on.
use Rattle.std.proofs.Common.{◌≡◌, true, false, Bool, Ok, Err, ◌↔◌, IsTrue, refl, sym, ap, subst}
use Rattle.repl_slots.specs.Stored.{file_of}
use Rattle.repl_slots.specs.declared.fault.SlotFault.{SlotFault}
use Rattle.repl_wal.specs.Holding.{with_disk}
use Rattle.repl_node.specs.Holding.{Goes, HeldNode, Holds}
use Rattle.repl_node.specs.Steps.{SaveLeaves, Saves}
use Rattle.repl_node.proofs.Saving.{only_slots, refused_goes, saved_goes}
use Rattle.repl_node.proofs.node.Node.slot_save.Goals as goal

not_so : (test broken : Bool) → (IsTrue test ↔ (broken ≡ true)) → test ≡ false → broken ≡ false
not_so test true both off = let on : test ≡ true = both.1 refl in absurd cc
not_so test false both off = refl

pub returns-in-Ok-clause-steps : goal.returns-in-Ok-clause-steps
returns-in-Ok-clause-steps g c n =
    let state = g.D.Disk.state in
    let before : HeldNode g.row.D.Denot = record { wal = c.self.inside.wal; slots = c.self.inside.slots } in
    let disk = c.save.new.disk in
    let After : HeldNode g.row.D.Denot = record { wal = with_disk c.self.inside.wal disk; slots = c.save.new.self } in
    let From : HeldNode g.row.D.Denot → Type 0 = λ h. Holds (state h.wal.disk) h n → Goes (state h.wal.disk) (state disk) After n
    (Saves {A = Unit {0}} n (Ok tt)) (SaveLeaves n) in
    subst From c.self.view_is (λ holds.
    let sound = not_so c.is_broken.result n.log.broken (c.is_broken.ensures n.log holds.log.remembers) c.if-is_broken.false in
    let is = c.in-Ok.ensures in
    let lent = state c.disk_mut.result.now in
    let value = c.disk_mut.ensures.value in
    let only = only_slots lent (state disk) (file_of before.slots.slots) (Ok tt) (λ t image le may. g.met.D.Disk.counts_now disk t image le may)
    is.any_moment is.files tt in
    subst (λ d. Goes (state d) (state disk) After n (Saves {A = Unit {0}} n (Ok tt)) (SaveLeaves n)) value
    (saved_goes lent (state disk) before disk n (subst (λ d. Holds (state d) before n) (sym value) holds) only is.stored sound c.save.new.self
    is.answer.1 is.after))

pub returns-in-Err-clause-steps : goal.returns-in-Err-clause-steps
returns-in-Err-clause-steps g c n =
    let state = g.D.Disk.state in
    let before : HeldNode g.row.D.Denot = record { wal = c.self.inside.wal; slots = c.self.inside.slots } in
    let f : SlotFault = c.in-Err.fault in
    let disk = c.save.new.disk in
    let wal = c.stop.new.wal in
    let After : HeldNode g.row.D.Denot = record { wal = wal; slots = c.save.new.self } in
    let Ends : HeldNode g.row.D.Denot → SlotFault → Type 0 = λ h e. Holds (state h.wal.disk) h n → Goes (state h.wal.disk)
    (state wal.disk) After n (Saves {A = Unit {0}} n (Err e)) (SaveLeaves n) in
    let here : Ends before f = λ holds.
    let sound = not_so c.is_broken.result n.log.broken (c.is_broken.ensures n.log holds.log.remembers) c.if-is_broken.false in
    let is = c.in-Err.ensures in
    let lent = state c.disk_mut.result.now in
    let value = c.disk_mut.ensures.value in
    let only = only_slots lent (state disk) (file_of before.slots.slots) (Err f) (λ t image le may. g.met.D.Disk.counts_now disk t image le may)
    is.any_moment tt is.half_done in
    subst (λ d. Goes (state d) (state wal.disk) After n (Saves {A = Unit {0}} n (Err f)) (SaveLeaves n)) value
    (subst (λ d. Goes lent (state d) After n (Saves {A = Unit {0}} n (Err f)) (SaveLeaves n)) (sym c.stop.ensures.disk)
    (refused_goes lent (state disk) before disk n (subst (λ d. Holds (state d) before n) (sym value) holds) only is.stored sound f wal
    (λ failed. c.stop.ensures.stopped failed n.log holds.log.remembers sound) c.stop.ensures.others c.save.new.self is.answer
    (λ same. is.no_memory (ap (λ e. Err e) same)))) in
    subst (λ (h : HeldNode g.row.D.Denot). Ends h c.stop.result) c.self.view_is (subst (λ (e : SlotFault). Ends before e) (sym c.stop.ensures.told) here)
