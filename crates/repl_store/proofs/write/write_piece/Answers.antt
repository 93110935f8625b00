-- The three parts of a piece, one after the other.
use Rattle.std.proofs.Common.{rules, ◌≡◌, ℕ, Err, refl, sym, subst}
use Rattle.repl_store.specs.Backing.{Before, LeavesOne, appended}
use Rattle.repl_store.specs.declared.fault.StoreFault.{StoreFault}
use Rattle.repl_store.specs.declared.fault.StoreFault.TheVariants as fault
use Rattle.repl_store.proofs.Apart.{apart_on}
use Rattle.repl_store.proofs.Backed.{backs_kept}
use Rattle.repl_store.proofs.Chaining.{comes_after, refused_on, wanted_comes}
use Rattle.repl_store.proofs.write.write_piece.Goals as goal

pub returns-in_err-sync_full-clause-comes : goal.returns-in_err-sync_full-clause-comes
returns-in_err-sync_full-clause-comes g c = λ s backs.
    let state = g.D.Disk.state in
    let e : StoreFault = c.in_err-sync_full.field-0.0 in
    let is : c.from_residual.result ≡ Err e = search rules in
    refused_on (Err e) c.from_residual.result e (state c.args.disk.now) (state c.sync_full.new.disk) c.sync_full.new.head (Before s)
    (Before s) s (appended s c.args.piece.now) (λ t. t ≡ s) (λ t. t ≡ s) refl is (λ d h. h) (λ t h. h)
    (c.in_err-sync_full.ensures.comes s backs)

pub returns-in_err-name_tail-clause-comes : goal.returns-in_err-name_tail-clause-comes
returns-in_err-name_tail-clause-comes g c = λ s backs.
    let state = g.D.Disk.state in
    let is : c.from_residual-in_err-name_tail.result ≡ Err fault.Memory = search rules in
    let first = c.in_ok-sync_full.ensures.comes s backs in
    wanted_comes c.from_residual-in_err-name_tail.result (state c.args.disk.now) (state c.sync_full.new.disk) c.name_tail.new.head
    (Before s) (appended s c.args.piece.now) (λ t. t ≡ s) s is
    (subst (λ (n : ℕ). LeavesOne (state c.args.disk.now) (state c.sync_full.new.disk) n (Before s))
    (sym c.name_tail.ensures.same.0.same_size) first.moments) refl
    (backs_kept (state c.sync_full.new.disk) c.sync_full.new.head c.name_tail.new.head s c.name_tail.ensures.same first.ok)

pub returns-clause-comes : goal.returns-clause-comes
returns-clause-comes g c = λ s backs.
    let state = g.D.Disk.state in
    let first = c.in_ok-sync_full.ensures.comes s backs in
    let named = backs_kept (state c.sync_full.new.disk) c.sync_full.new.head c.name_tail.new.head s c.name_tail.ensures.same first.ok in
    let last = c.append.ensures.comes s named in
    comes_after c.append.result (state c.args.disk.now) (state c.sync_full.new.disk) (state c.append.new.disk) c.sync_full.new.head
    c.append.new.head (Before s) (appended s c.args.piece.now) (λ t. t ≡ s) first.moments (search rules)
    c.in_ok-sync_full.ensures.caused.ok.0 last

pub returns-clause-apart : goal.returns-clause-apart
returns-clause-apart g c =
    let state = g.D.Disk.state in
    apart_on (state c.args.disk.now) (state c.sync_full.new.disk) (state c.append.new.disk) c.sync_full.ensures.apart
    c.append.ensures.apart
