-- A new control, or the old one.
use Rattle.std.proofs.Common.{Err, refl, sym, ◌∙◌, ap, subst}
use Rattle.repl_control.specs.Control.{IsControl}
use Rattle.repl_store.specs.Head.{Head, IsHead}
use Rattle.repl_store.proofs.Renewing.{renew_ok, renew_refused}
use Rattle.repl_store.proofs.flush.renew.Goals as goal

pub returns-in-Ok-clause-comes : goal.returns-in-Ok-clause-comes
returns-in-Ok-clause-comes g c = λ s backs.
    let head = c.args.head.now in
    let state = g.D.Disk.state in
    let v = c.head.view_is in
    renew_ok (state c.args.disk.now) head s (subst IsHead v c.head.invariant) backs c.args.control c.requires.synced c.requires.flushed
    (subst (IsControl head.size) (sym c.requires.flushed) c.requires.right.0) c.requires.right.1 (state c.put_control.new.disk)
    c.put_control.ensures.any_moment _
    record {
      same_size = ap (λ (h : Head). h.size) v;
      same_control = refl;
      same_path = ap (λ (h : Head). h.path) v;
      same_end = ap (λ (h : Head). h.written) v;
    } (ap (λ (h : Head). h.synced) v ∙ c.requires.synced) c.in-Ok.ensures.durable c.in-Ok.ensures.files

pub returns-in-Err-clause-comes : goal.returns-in-Err-clause-comes
returns-in-Err-clause-comes g c = λ s backs.
    let head = c.args.head.now in
    let state = g.D.Disk.state in
    let v = c.head.view_is in
    renew_refused (state c.args.disk.now) head s (subst IsHead v c.head.invariant) backs c.args.control c.requires.synced c.requires.flushed
    (subst (IsControl head.size) (sym c.requires.flushed) c.requires.right.0) c.requires.right.1 (state c.put_control.new.disk)
    c.put_control.ensures.any_moment c.in-Err.error c.fault_of.result c.fault_of.ensures c.in-Err.ensures.there
    (λ same. c.in-Err.ensures.no_memory (ap (λ e. Err e) same)) c.in-Err.ensures.caused.faults
