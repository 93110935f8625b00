-- A file of a segment below the floor goes, and nothing that counts changes.
use Rattle.std.proofs.Common.{rules, ◌≡◌, ◌/◌, true, false, Err, None, sym, subst}
use Rattle.repl_disk.specs.Answers.{Does, Leaves}
use Rattle.repl_disk.specs.Crash.{Removes}
use Rattle.repl_disk.specs.Folder.{IfTold, put}
use Rattle.repl_disk.specs.declared.disk.DiskError.{DiskError}
use Rattle.repl_disk.specs.declared.disk.DiskError.TheVariants as error
use Rattle.repl_store.specs.Head.{Head, IsHead}
use Rattle.repl_store.specs.Raised.{NamesBelow}
use Rattle.repl_store.proofs.Apart.{apart_itself, apart_remove, below_is_own}
use Rattle.repl_store.proofs.Removing.{caused_refused, not_broken, removal_done, removal_missing, removal_refused}
use Rattle.repl_store.proofs.Freeing.{drops_none, drops_removed}
use Rattle.repl_store.proofs.raise.remove_if_below.Goals as goal

pub returns-in-Err : goal.returns-in-Err
returns-in-Err g c =
    let old = g.D.Disk.state c.args.disk.now in
    let new = g.D.Disk.state c.remove.new.self in
    let head = c.args.head.now in
    let v = c.head.view_is in
    let N : Head → Type 0 = λ h. NamesBelow h.size c.args.name.now (h.control.floor / h.size) in
    let yes : c.is_below.result ≡ true = search rules in
    let below : N head = subst N v (c.is_below.ensures.0 yes) in
    let differs : c.in-Err.error ≡ error.Missing → ⊥ = search rules in
    record {
      caused = caused_refused c.in-Err.error c.fault_of.result old new c.fault_of.ensures c.in-Err.ensures.ends;
      unbroken = λ same. not_broken c.in-Err.error c.fault_of.result c.fault_of.ensures cc;
      apart = apart_remove c.remove.result old new (g.met.D.Disk.only_now c.args.disk.now) c.remove.ensures.ends.time c.args.name.now
          (below_is_own head.size c.args.name.now _ below) c.remove.ensures.removed c.remove.ensures.crash;
      keeps = c.remove.ensures.keeps;
      drops = tt;
      comes = λ s backs.
          removal_refused old head s (subst IsHead v c.head.invariant) backs c.args.name.now below (g.met.D.Disk.only_now c.args.disk.now)
          new
          c.remove.ensures.ends.time c.in-Err.error c.fault_of.result c.fault_of.ensures differs c.in-Err.ensures.removed
          c.in-Err.ensures.crash c.in-Err.ensures.ends.faults;
    }

pub returns-in-Ok-clause-comes : goal.returns-in-Ok-clause-comes
returns-in-Ok-clause-comes g c = λ s backs.
    let head = c.args.head.now in
    let v = c.head.view_is in
    let N : Head → Type 0 = λ h. NamesBelow h.size c.args.name.now (h.control.floor / h.size) in
    let yes : c.is_below.result ≡ true = search rules in
    removal_done (g.D.Disk.state c.args.disk.now) head s (subst IsHead v c.head.invariant) backs c.args.name.now
    (subst N v (c.is_below.ensures.0 yes)) (g.met.D.Disk.only_now c.args.disk.now) (g.D.Disk.state c.remove.new.self)
    c.remove.ensures.ends.time c.in-Ok.ensures.removed c.in-Ok.ensures.crash

pub returns-in-Err-Missing-clause-comes : goal.returns-in-Err-Missing-clause-comes
returns-in-Err-Missing-clause-comes g c = λ s backs.
    let head = c.args.head.now in
    let v = c.head.view_is in
    let N : Head → Type 0 = λ h. NamesBelow h.size c.args.name.now (h.control.floor / h.size) in
    let yes : c.is_below.result ≡ true = search rules in
    let old = g.D.Disk.state c.args.disk.now in
    let new = g.D.Disk.state c.remove.new.self in
    let R : DiskError → Type 0 = λ e. Does {A = Unit {0}} (Err e) old.files new.files (λ f. put f c.args.name.now None) in
    let C : DiskError → Type 0 = λ e. IfTold old.files (λ f. Leaves {A = Unit {0}} (Err e) (Removes c.args.name.now) old.may_leave
    new.may_leave) in
    let is : c.in-Err-Missing.field-0 ≡ error.Missing = search rules in
    removal_missing (g.D.Disk.state c.args.disk.now) head s (subst IsHead v c.head.invariant) backs c.args.name.now
    (subst N v (c.is_below.ensures.0 yes)) (g.met.D.Disk.only_now c.args.disk.now) (g.D.Disk.state c.remove.new.self)
    c.remove.ensures.ends.time (subst R is c.in-Err-Missing.ensures.removed)
    (subst C is c.in-Err-Missing.ensures.crash)

pub returns-in-Ok-clause-drops : goal.returns-in-Ok-clause-drops
returns-in-Ok-clause-drops g c =
    drops_removed (g.D.Disk.state c.args.disk.now).files (g.D.Disk.state c.remove.new.self).files c.args.head.now.size
    (c.args.head.now.control.floor / c.args.head.now.size) c.args.name.now c.in-Ok.ensures.removed

pub returns-in-Ok-clause-apart : goal.returns-in-Ok-clause-apart
returns-in-Ok-clause-apart g c =
    let head = c.args.head.now in
    let N : Head → Type 0 = λ h. NamesBelow h.size c.args.name.now (h.control.floor / h.size) in
    let yes : c.is_below.result ≡ true = search rules in
    let below : N head = subst N c.head.view_is (c.is_below.ensures.0 yes) in
    apart_remove c.remove.result (g.D.Disk.state c.args.disk.now) (g.D.Disk.state c.remove.new.self)
    (g.met.D.Disk.only_now c.args.disk.now) c.remove.ensures.ends.time c.args.name.now
    (below_is_own head.size c.args.name.now _ below) c.remove.ensures.removed c.remove.ensures.crash

pub returns-in-Err-Missing-clause-apart : goal.returns-in-Err-Missing-clause-apart
returns-in-Err-Missing-clause-apart g c =
    let head = c.args.head.now in
    let N : Head → Type 0 = λ h. NamesBelow h.size c.args.name.now (h.control.floor / h.size) in
    let yes : c.is_below.result ≡ true = search rules in
    let below : N head = subst N c.head.view_is (c.is_below.ensures.0 yes) in
    apart_remove c.remove.result (g.D.Disk.state c.args.disk.now) (g.D.Disk.state c.remove.new.self)
    (g.met.D.Disk.only_now c.args.disk.now) c.remove.ensures.ends.time c.args.name.now
    (below_is_own head.size c.args.name.now _ below) c.remove.ensures.removed c.remove.ensures.crash

pub returns-then-not-is_below-clause-apart : goal.returns-then-not-is_below-clause-apart
returns-then-not-is_below-clause-apart g c = apart_itself (g.D.Disk.state c.args.disk.now) (g.met.D.Disk.only_now c.args.disk.now)

pub returns-then-not-is_below-clause-drops : goal.returns-then-not-is_below-clause-drops
returns-then-not-is_below-clause-drops g c =
    let head = c.args.head.now in
    let N : Head → Type 0 = λ h. NamesBelow h.size c.args.name.now (h.control.floor / h.size) in
    let no : c.is_below.result ≡ false = search rules in
    drops_none (g.D.Disk.state c.args.disk.now).files head.size (head.control.floor / head.size) c.args.name.now (λ below.
    let yes : c.is_below.result ≡ true = c.is_below.ensures.1 (subst N (sym c.head.view_is) below) in cc)
