-- The control or the slots are refused, or the store is judged after them.
use Rattle.std.proofs.Common.{sym, subst}
use Rattle.repl_disk.specs.Folder.{IfTold, ToldFiles}
use Rattle.repl_admin.proofs.Judged.{checked_past, early_checked}
use Rattle.repl_admin.specs.Files.{HasSlots}
use Rattle.repl_admin.proofs.judging.check.Goals as goal

pub returns-in-Ok-clause-checked : goal.returns-in-Ok-clause-checked
returns-in-Ok-clause-checked g c =
    let state = g.D.Disk.state in
    let sink = g.K.Sink.sink in
    let old = state c.args.disk in
    let mid = state c.in-Ok.disk in
    let ensures = c.in-Ok.ensures in
    let slots = subst (λ (t : ToldFiles). IfTold t HasSlots) (sym ensures.reads.0.stayed) ensures.right in
    let lacks = (g.met.D.Disk.never_falls c.args.disk c.in-Ok.disk ensures.keeps).lacks in
    checked_past c.check_store.result.0 old mid (state c.check_store.result.1) (sink c.args.out.now) (sink c.check_store.new.out)
    ensures.reads.0 ensures.reads.1 lacks (c.check_store.ensures.checked slots)

pub returns-in-Err-clause-checked : goal.returns-in-Err-clause-checked
returns-in-Err-clause-checked g c =
    let state = g.D.Disk.state in
    early_checked c.in-Err.ended.0 (state c.args.disk) (state c.in-Err.ended.1) (g.K.Sink.sink c.args.out.now) c.in-Err.ensures.told
