-- Only the history changes.
use Rattle.std.proofs.Common.{rules, ◌≡◌, ◌++◌, codes, ℕ, List, inl, inr, sym, subst}
use Rattle.repl_clone.specs.Copying.{OfHistory}
use Rattle.repl_clone.specs.Causes.{IsUnheard}
use Rattle.repl_clone.specs.declared.fault.CopyFault.{CopyFault}
use Rattle.repl_clone.proofs.Causing.{history_refused}
use Rattle.repl_clone.proofs.Changing.{changes_none, replaced_done, replaced_half}
use Rattle.repl_lsn.specs.Segment.{history_name}
use Rattle.repl_clone.proofs.history.copy_history.Goals as goal

pub returns-in_err-name-clause-changes : goal.returns-in_err-name-clause-changes
returns-in_err-name-clause-changes g c =
    changes_none (OfHistory c.args.history.now.own) (g.D.Disk.state c.args.disk.now) (g.met.D.Disk.only_now c.args.disk.now)

pub returns-in_err-aside-clause-changes : goal.returns-in_err-aside-clause-changes
returns-in_err-aside-clause-changes g c =
    changes_none (OfHistory c.args.history.now.own) (g.D.Disk.state c.args.disk.now) (g.met.D.Disk.only_now c.args.disk.now)

pub returns-in-Err-clause-changes : goal.returns-in-Err-clause-changes
returns-in-Err-clause-changes g c =
    changes_none (OfHistory c.args.history.now.own) (g.D.Disk.state c.args.disk.now) (g.met.D.Disk.only_now c.args.disk.now)

pub returns-in-Err-clause-answers : goal.returns-in-Err-clause-answers
returns-in-Err-clause-answers g c =
    let path = c.args.history.now in
    let P : CopyFault → Type 0 = IsUnheard path in
    subst P (sym c.of_history.ensures) (history_refused path c.in-Err.fault c.in-Err.ensures.refused)

pub returns-in-Ok-replace_by-clause-changes : goal.returns-in-Ok-replace_by-clause-changes
returns-in-Ok-replace_by-clause-changes g c =
    let own = c.args.history.now.own in
    let named : c.deref.result.now ≡ history_name own = search rules in
    let aside : c.deref-2.result.now ≡ history_name own ++ codes ".tmp" = search rules in
    replaced_done (OfHistory own) (g.D.Disk.state c.args.disk.now) (g.D.Disk.state c.replace_by.new.disk) c.deref.result.now c.deref-2.result.now
    c.deref-3.result.now (inl named) (inr aside) (g.met.D.Disk.counts_now c.replace_by.new.disk) c.replace_by.ensures.any_moment
    c.in-Ok-replace_by.ensures.files

pub returns-clause-changes : goal.returns-clause-changes
returns-clause-changes g c =
    let own = c.args.history.now.own in
    let named : c.deref.result.now ≡ history_name own = search rules in
    let aside : c.deref-2.result.now ≡ history_name own ++ codes ".tmp" = search rules in
    replaced_half (OfHistory own) (g.D.Disk.state c.args.disk.now) (g.D.Disk.state c.replace_by.new.disk) c.deref.result.now c.deref-2.result.now
    c.deref-3.result.now (inl named) (inr aside) (g.met.D.Disk.counts_now c.replace_by.new.disk) c.replace_by.ensures.any_moment
    c.in-Err-replace_by.ensures.half_done
