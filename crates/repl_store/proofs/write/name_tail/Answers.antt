-- Where bytes are not synced, the name is there.
use Rattle.std.proofs.Common.{ap, subst}
use Rattle.repl_store.specs.Head.{Head, IsHead}
use Rattle.repl_store.proofs.Backed.{apart_by, ready_now}
use Rattle.repl_store.proofs.write.name_tail.Goals as goal

pub returns-else-eq-clause-ready : goal.returns-else-eq-clause-ready
returns-else-eq-clause-ready c =
    let v = c.head.view_is in
    ready_now c.args.head.now (subst IsHead v c.head.invariant) c.requires
    (apart_by c.head.inside.synced c.head.inside.written c.args.head.now.synced c.args.head.now.written (ap (λ (h : Head). h.synced) v)
    (ap (λ (h : Head). h.written) v) c.if-eq.ensures)
