-- A control with another floor, and then files that go.
use Rattle.std.proofs.Common.{rules, ◌≡◌, ◌⊎◌, Err, refl, ap, subst, ◌∙◌, inl}
use Rattle.repl_store.specs.Backing.{Comes, Either, raised}
use Rattle.repl_store.specs.Head.{Head}
use Rattle.repl_store.specs.Raised.{raised_head, raised_state}
use Rattle.repl_store.specs.declared.fault.StoreFault.{StoreFault}
use Rattle.repl_store.specs.declared.fault.StoreFault.TheVariants as fault
use Rattle.repl_store.proofs.Apart.{apart_on}
use Rattle.repl_store.proofs.Chaining.{refused_on}
use Rattle.repl_store.proofs.Raising.{failed_as, removal_comes}
use Rattle.repl_store.proofs.raise.raise.Goals as goal

pub returns-in_err-put_floor-clause-comes : goal.returns-in_err-put_floor-clause-comes
returns-in_err-put_floor-clause-comes g c = λ s backs.
    let state = g.D.Disk.state in
    let e : StoreFault = c.in_err-put_floor.field-0.0 in
    let is : c.from_residual.result ≡ Err e = search rules in
    refused_on (Err e) c.from_residual.result e (state c.args.disk.now) (state c.put_floor.new.disk) c.put_floor.new.head
    (Either s.durable (raised s.durable c.args.floor)) (Either s.durable (raised s.durable c.args.floor)) (raised_state s c.args.floor)
    (raised_state s c.args.floor) (λ t. t ≡ s) (λ t. (t ≡ s) ⊎ (t ≡ raised_state s c.args.floor)) refl is (λ d h. h) (λ t h. inl h)
    (c.in_err-put_floor.ensures.comes s backs)

pub returns-in-Ok-clause-comes : goal.returns-in-Ok-clause-comes
returns-in-Ok-clause-comes g c = λ s backs.
    let state = g.D.Disk.state in
    removal_comes _ (state c.args.disk.now) (state c.put_floor.new.disk) (state c.remove_below.new.disk) c.put_floor.new.head s c.args.floor
    (c.in_ok-put_floor.ensures.comes s backs) c.in_ok-put_floor.ensures.caused.ok.0 c.in-Ok.ensures.comes

pub returns-in-Err-Memory-clause-comes : goal.returns-in-Err-Memory-clause-comes
returns-in-Err-Memory-clause-comes g c = λ s backs.
    let state = g.D.Disk.state in
    let is : c.in-Err-Memory.field-0 ≡ fault.Memory = search rules in
    let P : StoreFault → Type 0 = λ f. Comes {A = Unit {0}} (Err f) (state c.args.disk.now) (state c.remove_below.new.disk)
    c.put_floor.new.head
    (Either s.durable (raised s.durable c.args.floor)) (raised_state s c.args.floor) (λ t. (t ≡ s) ⊎ (t ≡ raised_state s c.args.floor)) in
    subst P is (removal_comes _ (state c.args.disk.now) (state c.put_floor.new.disk) (state c.remove_below.new.disk) c.put_floor.new.head s
    c.args.floor
    (c.in_ok-put_floor.ensures.comes s backs) c.in_ok-put_floor.ensures.caused.ok.0 c.in-Err-Memory.ensures.comes)

pub returns-in-Err : goal.returns-in-Err
returns-in-Err g c =
    let state = g.D.Disk.state in
    let v = c.head.view_is in
    let later : c.put_floor.new.head ≡ raised_head c.args.head.now c.args.floor = search rules in
    let e = c.head-2.view_is ∙ later in
    let differs : c.in-Err.fault ≡ fault.Memory → ⊥ = search rules in
    record {
      ok = tt;
      stays = inl (λ i. record {
        size = (e i).size;
        control = (v i).control;
        path = (e i).path;
        written = (e i).written;
        synced = (e i).synced;
        unsynced = (e i).unsynced;
      });
      caused = search rules;
      unbroken = search rules;
      apart = apart_on (state c.args.disk.now) (state c.put_floor.new.disk) (state c.remove_below.new.disk) c.in_ok-put_floor.ensures.apart
          c.remove_below.ensures.apart;
      keeps = search rules;
      removed = tt;
      comes = λ s backs.
          failed_as c.in-Err.fault (state c.args.disk.now) (state c.remove_below.new.disk) c.put_floor.new.head _ _ _ _ differs
          (ap (λ (h : Head). h.size) c.head-2.view_is)
          (removal_comes _ (state c.args.disk.now) (state c.put_floor.new.disk) (state c.remove_below.new.disk) c.put_floor.new.head s
          c.args.floor (c.in_ok-put_floor.ensures.comes s backs) c.in_ok-put_floor.ensures.caused.ok.0 c.in-Err.ensures.comes);
    }

pub returns-in-Ok-clause-apart : goal.returns-in-Ok-clause-apart
returns-in-Ok-clause-apart g c =
    let state = g.D.Disk.state in
    apart_on (state c.args.disk.now) (state c.put_floor.new.disk) (state c.remove_below.new.disk) c.in_ok-put_floor.ensures.apart
    c.remove_below.ensures.apart

pub returns-in-Err-Memory-clause-apart : goal.returns-in-Err-Memory-clause-apart
returns-in-Err-Memory-clause-apart g c =
    let state = g.D.Disk.state in
    apart_on (state c.args.disk.now) (state c.put_floor.new.disk) (state c.remove_below.new.disk) c.in_ok-put_floor.ensures.apart
    c.remove_below.ensures.apart
