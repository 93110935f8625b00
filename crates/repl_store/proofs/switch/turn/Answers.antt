-- The child's control, or the old one.
use Rattle.std.proofs.Common.{None, Err, ap, subst}
use Rattle.repl_store.specs.Head.{IsHead}
use Rattle.repl_store.proofs.Turned.{turn_done, turn_refused}
use Rattle.repl_store.proofs.switch.turn.Goals as goal

pub returns-in-Ok-clause-comes : goal.returns-in-Ok-clause-comes
returns-in-Ok-clause-comes g c = λ s backs says starts known.
    let old = g.D.Disk.state c.args.disk.now in
    let new = g.D.Disk.state c.put_control.new.disk in
    let head = c.args.head.now in
    let child = c.args.history in
    let control = c.args.control in
    let v = c.head.view_is in
    turn_done old head s (subst IsHead v c.head.invariant) backs child control.role control.whole control.prev c.requires.can
    c.requires.path
    c.requires.small known says starts new control c.requires.control c.put_control.ensures.any_moment _
    (λ i. record {
      size = (v i).size;
      control = c.requires.control i;
      path = child;
      written = (c.requires.control i).flushed;
      synced = (c.requires.control i).flushed;
      unsynced = None;
    })
    c.in-Ok.ensures.durable c.in-Ok.ensures.files

pub returns-in-Err-clause-comes : goal.returns-in-Err-clause-comes
returns-in-Err-clause-comes g c = λ s backs says starts known.
    let old = g.D.Disk.state c.args.disk.now in
    let new = g.D.Disk.state c.put_control.new.disk in
    let head = c.args.head.now in
    let child = c.args.history in
    let control = c.args.control in
    let v = c.head.view_is in
    turn_refused old head s (subst IsHead v c.head.invariant) backs child control.role control.whole control.prev c.requires.can
    c.requires.path
    c.requires.small known says starts new control c.requires.control c.put_control.ensures.any_moment c.in-Err.error c.fault_of.result
    c.fault_of.ensures c.in-Err.ensures.there (λ same. c.in-Err.ensures.no_memory (ap (λ e. Err e) same)) c.in-Err.ensures.caused.faults
