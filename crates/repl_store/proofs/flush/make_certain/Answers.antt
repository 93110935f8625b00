-- A sync, and then the control; or nothing, where all is certain already.
use Rattle.std.proofs.Common.{rules, ◌≡◌, Err, refl, sym, inl, subst}
use Rattle.repl_store.specs.Backing.{Backs, Before, Either, State, flushed, flushed_control}
use Rattle.repl_store.specs.Head.{Head}
use Rattle.repl_store.specs.declared.fault.StoreFault.{StoreFault}
use Rattle.repl_store.proofs.Apart.{apart_on}
use Rattle.repl_store.proofs.Chaining.{comes_after, moments_more, refused_on}
use Rattle.repl_store.proofs.Controls.{not_same, same_by_test}
use Rattle.repl_store.proofs.Pieces.{idle}
use Rattle.repl_store.proofs.Renewing.{certain_already}
use Rattle.repl_store.proofs.Turns.{done_comes}
use Rattle.repl_store.proofs.flush.make_certain.Goals as goal

pub returns-then-eq-clause-comes : goal.returns-then-eq-clause-comes
returns-then-eq-clause-comes g c = λ s backs.
    let disk = g.D.Disk.state c.args.disk.now in
    let head = c.args.head.now in
    let inside = c.head.inside in
    let done = flushed s c.args.role c.args.whole c.args.prev in
    let same = subst (λ (h : Head). flushed_control h.control c.args.role h.written c.args.whole c.args.prev ≡ h.control) c.head.view_is
    (same_by_test inside.control c.args.role inside.written c.args.whole c.args.prev c.if-eq.ensures) in
    let stays : done ≡ s = certain_already disk head s c.args.role c.args.whole c.args.prev backs same in
    done_comes tt disk disk head (Either s.durable done.durable) done (λ t. t ≡ s)
    (moments_more disk disk head.size (Before s) (Either s.durable done.durable) (λ d is. inl is)
    (idle disk head s (g.met.D.Disk.only_now c.args.disk.now) backs)) (subst (λ (t : State). Backs disk head t) (sym stays) backs)

pub returns-in_err-sync_tail-clause-still : goal.returns-in_err-sync_tail-clause-still
returns-in_err-sync_tail-clause-still g c = λ same.
    absurd (not_same c.head.inside.control c.args.role c.head.inside.written c.args.whole c.args.prev c.if-eq.ensures
    (subst (λ (h : Head). flushed_control h.control c.args.role h.written c.args.whole c.args.prev ≡ h.control) (sym c.head.view_is)
    same))

pub returns-clause-still : goal.returns-clause-still
returns-clause-still g c = λ same.
    absurd (not_same c.head.inside.control c.args.role c.head.inside.written c.args.whole c.args.prev c.if-eq.ensures
    (subst (λ (h : Head). flushed_control h.control c.args.role h.written c.args.whole c.args.prev ≡ h.control) (sym c.head.view_is)
    same))

pub returns-in_err-sync_tail-clause-comes : goal.returns-in_err-sync_tail-clause-comes
returns-in_err-sync_tail-clause-comes g c = λ s backs.
    let state = g.D.Disk.state in
    let done = flushed s c.args.role c.args.whole c.args.prev in
    let e : StoreFault = c.in_err-sync_tail.field-0.0 in
    let is : c.from_residual.result ≡ Err e = search rules in
    refused_on (Err e) c.from_residual.result e (state c.args.disk.now) (state c.sync_tail.new.disk) c.sync_tail.new.head (Before s)
    (Either s.durable done.durable) s done (λ t. t ≡ s) (λ t. t ≡ s) refl is (λ d h. inl h) (λ t h. h)
    (c.in_err-sync_tail.ensures.comes s backs)

pub returns-clause-comes : goal.returns-clause-comes
returns-clause-comes g c = λ s backs.
    let state = g.D.Disk.state in
    let done = flushed s c.args.role c.args.whole c.args.prev in
    let first = c.in_ok-sync_tail.ensures.comes s backs in
    let last = c.renew.ensures.comes s first.ok in
    comes_after c.renew.result (state c.args.disk.now) (state c.sync_tail.new.disk) (state c.renew.new.disk) c.sync_tail.new.head
    c.renew.new.head (Either s.durable done.durable) done (λ t. t ≡ s)
    (moments_more (state c.args.disk.now) (state c.sync_tail.new.disk) c.sync_tail.new.head.size (Before s)
    (Either s.durable done.durable) (λ d is. inl is) first.moments) (search rules) c.in_ok-sync_tail.ensures.caused.ok.0 last

pub returns-clause-apart : goal.returns-clause-apart
returns-clause-apart g c =
    let state = g.D.Disk.state in
    apart_on (state c.args.disk.now) (state c.sync_tail.new.disk) (state c.renew.new.disk) c.in_ok-sync_tail.ensures.apart
    c.renew.ensures.apart
