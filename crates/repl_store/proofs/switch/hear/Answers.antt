-- The child's history, or the one that was there.
use Rattle.std.proofs.Common.{rules, ◌≡◌, ◌++◌, ℕ, List, codes, Err, ap, subst}
use Rattle.repl_disk.specs.Crash.{LeavesOnly}
use Rattle.repl_disk.specs.Folder.{Became, Folder, IfTold}
use Rattle.repl_disk.specs.Replacing.{IsAfter, IsBeforeOrAfter, replaced}
use Rattle.repl_lsn.specs.Segment.{history_name}
use Rattle.repl_store.specs.Apart.{IsApart}
use Rattle.repl_store.proofs.Apart.{apart_replaced, history_aside_is_own, history_is_own}
use Rattle.repl_store.proofs.Heard.{hear_done, hear_refused}
use Rattle.repl_store.proofs.switch.hear.Goals as goal

pub returns-in-Ok-replace_by-clause-comes : goal.returns-in-Ok-replace_by-clause-comes
returns-in-Ok-replace_by-clause-comes g c = λ s backs.
    let old = g.D.Disk.state c.args.disk.now in
    let new = g.D.Disk.state c.replace_by.new.disk in
    let tli = c.args.child.now.own in
    let name = c.deref.result.now in
    let aside = c.deref-2.result.now in
    let text = c.deref-3.result.now in
    let is : name ≡ history_name tli = search rules in
    let is_aside : aside ≡ history_name tli ++ codes ".tmp" = search rules in
    let M : List ℕ → Type 0 = λ n. IfTold old.files (λ f. LeavesOnly old new (IsBeforeOrAfter old.may_leave n aside text)) in
    let N : List ℕ → Type 0 = λ n. IfTold old.files (λ f. (image : Folder) → new.may_leave image
    → IsAfter old.may_leave n aside text image) in
    let F : List ℕ → Type 0 = λ n. Became old.files new.files (λ f. replaced f n aside text) in
    hear_done old c.args.head.now s c.requires.held backs tli c.requires.below.0 c.requires.below.1 aside text is_aside new
    (subst M is c.replace_by.ensures.any_moment) (subst N is c.in-Ok-replace_by.ensures.durable) (subst F is
    c.in-Ok-replace_by.ensures.files)

pub returns-clause-comes : goal.returns-clause-comes
returns-clause-comes g c = λ s backs.
    let old = g.D.Disk.state c.args.disk.now in
    let new = g.D.Disk.state c.replace_by.new.disk in
    let tli = c.args.child.now.own in
    let name = c.deref.result.now in
    let aside = c.deref-2.result.now in
    let text = c.deref-3.result.now in
    let is : name ≡ history_name tli = search rules in
    let is_aside : aside ≡ history_name tli ++ codes ".tmp" = search rules in
    let M : List ℕ → Type 0 = λ n. IfTold old.files (λ f. LeavesOnly old new (IsBeforeOrAfter old.may_leave n aside text)) in
    hear_refused old c.args.head.now s c.requires.held backs tli c.requires.below.0 c.requires.below.1 aside text is_aside new
    (subst M is c.replace_by.ensures.any_moment) c.in-Err-replace_by.error c.fault_of.result c.fault_of.ensures
    c.in-Err-replace_by.ensures.there (λ same. c.in-Err-replace_by.ensures.no_memory (ap (λ e. Err e) same))
    c.in-Err-replace_by.ensures.caused.faults

pub returns-in-Ok-replace_by-clause-apart : goal.returns-in-Ok-replace_by-clause-apart
returns-in-Ok-replace_by-clause-apart g c =
    let tli = c.args.child.now.own in
    let named : c.deref.result.now ≡ history_name tli = search rules in
    let is_aside : c.deref-2.result.now ≡ history_name tli ++ codes ".tmp" = search rules in
    apart_replaced c.replace_by.result (g.D.Disk.state c.args.disk.now) (g.D.Disk.state c.replace_by.new.disk) c.deref.result.now
    c.deref-2.result.now c.deref-3.result.now (λ is. history_is_own tli (subst IsApart named is))
    (history_aside_is_own tli c.deref-2.result.now is_aside) (g.met.D.Disk.counts_now c.replace_by.new.disk)
    c.replace_by.ensures.any_moment c.replace_by.ensures.files c.replace_by.ensures.half_done

pub returns-clause-apart : goal.returns-clause-apart
returns-clause-apart g c =
    let tli = c.args.child.now.own in
    let named : c.deref.result.now ≡ history_name tli = search rules in
    let is_aside : c.deref-2.result.now ≡ history_name tli ++ codes ".tmp" = search rules in
    apart_replaced c.replace_by.result (g.D.Disk.state c.args.disk.now) (g.D.Disk.state c.replace_by.new.disk) c.deref.result.now
    c.deref-2.result.now c.deref-3.result.now (λ is. history_is_own tli (subst IsApart named is))
    (history_aside_is_own tli c.deref-2.result.now is_aside) (g.met.D.Disk.counts_now c.replace_by.new.disk)
    c.replace_by.ensures.any_moment c.replace_by.ensures.files c.replace_by.ensures.half_done
