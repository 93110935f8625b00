-- A control with another floor, or the old one.
use Rattle.std.proofs.Common.{Err, ap, subst}
use Rattle.repl_store.specs.Backing.{raised_control}
use Rattle.repl_store.specs.Head.{Head, IsHead}
use Rattle.repl_store.specs.Raised.{raised_head}
use Rattle.repl_store.proofs.Raising.{floor_put, floor_refused}
use Rattle.repl_store.proofs.raise.put_floor.Goals as goal

pub returns-in-Ok-clause-comes : goal.returns-in-Ok-clause-comes
returns-in-Ok-clause-comes g c = λ s backs.
    let state = g.D.Disk.state in
    let v = c.head.view_is in
    floor_put (state c.args.disk.now) c.args.head.now s (subst IsHead v c.head.invariant) backs c.args.floor c.requires
    (state c.put_control.new.disk) _ (ap (λ (h : Head). raised_control h.control c.args.floor) v) c.put_control.ensures.any_moment _ (ap (λ
    (h : Head). raised_head h c.args.floor) v)
    c.in-Ok.ensures.durable c.in-Ok.ensures.files

pub returns-in-Err-clause-comes : goal.returns-in-Err-clause-comes
returns-in-Err-clause-comes g c = λ s backs.
    let state = g.D.Disk.state in
    let v = c.head.view_is in
    floor_refused (state c.args.disk.now) c.args.head.now s (subst IsHead v c.head.invariant) backs c.args.floor c.requires
    (state c.put_control.new.disk) _ (ap (λ (h : Head). raised_control h.control c.args.floor) v) c.put_control.ensures.any_moment
    c.in-Err.error c.fault_of.result c.fault_of.ensures
    c.in-Err.ensures.there (λ same. c.in-Err.ensures.no_memory (ap (λ e. Err e) same)) c.in-Err.ensures.caused.faults
