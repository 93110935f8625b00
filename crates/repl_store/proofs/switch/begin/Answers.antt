-- The bytes before the switch point are read, and put into the child's first segment.
use Rattle.std.proofs.Common.{rules, ◌≡◌, ◌-◌, ◌%◌, ℕ, length, Result, Ok, Err, refl, ap, subst, sym, ◌∙◌}
use Rattle.std.proofs.lemmas.List.{take_at}
use Rattle.repl_lsn.specs.History.{last_switch}
use Rattle.repl_store.specs.Backing.{Before, Comes}
use Rattle.repl_store.specs.Leaving.{first_file}
use Rattle.repl_store.specs.declared.fault.StoreFault.{StoreFault}
use Rattle.repl_store.specs.declared.fault.StoreFault.TheVariants as fault
use Rattle.repl_store.proofs.Apart.{apart_on, apart_reads}
use Rattle.repl_store.proofs.Chaining.{comes_after, wanted_comes}
use Rattle.repl_store.proofs.Reading.{read_comes}
use Rattle.repl_store.proofs.Starting.{caused_after, started, where_ok}
use Rattle.repl_store.proofs.Pieces.{idle}
use Rattle.repl_store.proofs.switch.begin.Goals as goal

pub returns-in_err-room-clause-comes : goal.returns-in_err-room-clause-comes
returns-in_err-room-clause-comes g c = λ s backs.
    let old = g.D.Disk.state c.args.disk.now in
    let is : c.from_residual-in_err-room.result ≡ Err fault.Memory = search rules in
    wanted_comes c.from_residual-in_err-room.result old old c.args.head.now (Before s) s (λ t. t ≡ s) s is
    (idle old c.args.head.now s (g.met.D.Disk.only_now c.args.disk.now) backs) refl backs

pub returns-in_err-read_range-clause-comes : goal.returns-in_err-read_range-clause-comes
returns-in_err-read_range-clause-comes g c = λ s backs.
    let old = g.D.Disk.state c.args.disk.now in
    let new = g.D.Disk.state c.read_range.new.disk in
    let e : StoreFault = c.in_err-read_range.field-0.0 in
    let is : c.from_residual-in_err-read_range.result ≡ Err e = search rules in
    let P : Result (Unit {0}) StoreFault → Type 0 = λ r. Comes r old new c.args.head.now (Before s) s (λ t. t ≡ s) in
    subst P (sym is) (read_comes (Err e) old new c.args.head.now s _ _ _ backs (c.in_err-read_range.ensures.reads s backs))

pub returns-clause-caused : goal.returns-clause-caused
returns-clause-caused g c =
    let done = c.in_ok-read_range.ensures.caused.ok in
    caused_after c.put_first.result (g.D.Disk.state c.args.disk.now) (g.D.Disk.state c.read_range.new.disk)
    (g.D.Disk.state c.put_first.new.disk) done.0 done.1
    (g.met.D.Disk.never_falls c.args.disk.now c.read_range.new.disk c.in_ok-read_range.ensures.keeps).lacks c.put_first.ensures.caused

pub returns-clause-said : goal.returns-clause-said
returns-clause-said g c = λ s backs said.
    let reads = c.in_ok-read_range.ensures.reads s backs in
    c.put_first.ensures.said s reads.backs (λ image left. said image (reads.none_new image left))

pub returns-clause-begun : goal.returns-clause-begun
returns-clause-begun g c = λ s backs.
    let new = g.D.Disk.state c.put_first.new.disk in
    let head = c.args.head.now in
    let child = c.args.child.now in
    let reads = c.in_ok-read_range.ensures.reads s backs in
    let count = c.place_in_segment-count.result in
    let named : c.deref.result.now ≡ first_file head child = search rules in
    let counted : count ≡ last_switch child.parents % head.size = search rules in
    let full : length c.deref_mut.result.now ≡ count = search rules in
    let long : length c.read_range.new.room ≡ c.in_ok-room.room.len = search rules in
    let same : c.deref-2.result.now ≡ c.read_range.new.room = c.deref-2.ensures.value
    ∙ take_at c.read_range.new.room _ c.in_ok-room.room.len long in
    where_ok c.put_first.result _ _ (started new head child s _ count c.deref.result.now c.deref_mut.result.now c.deref-2.result.now named
    counted
    (ap (λ (x : ℕ). x - count) (c.switch.view_is ∙ c.requires.switch)) full (same ∙ reads.read)) (c.put_first.ensures.front s reads.backs)

pub returns-clause-comes : goal.returns-clause-comes
returns-clause-comes g c = λ s backs.
    let state = g.D.Disk.state in
    let head = c.args.head.now in
    let reads = c.in_ok-read_range.ensures.reads s backs in
    let first = read_comes {A = Unit {0}} (Ok tt) (state c.args.disk.now) (state c.read_range.new.disk) head s _ _ _ backs reads in
    comes_after c.put_first.result (state c.args.disk.now) (state c.read_range.new.disk) (state c.put_first.new.disk) head head (Before s) s
    (λ t. t ≡ s) first.moments refl c.in_ok-read_range.ensures.caused.ok.0 (c.put_first.ensures.comes s reads.backs)

pub returns-clause-apart : goal.returns-clause-apart
returns-clause-apart g c =
    let state = g.D.Disk.state in
    apart_on (state c.args.disk.now) (state c.read_range.new.disk) (state c.put_first.new.disk)
    (apart_reads (state c.args.disk.now) (state c.read_range.new.disk) c.read_range.ensures.only) c.put_first.ensures.apart
