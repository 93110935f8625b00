-- What `prepare` ensures.
use Rattle.std.proofs.Common.{◌+◌, ◌<◌, ◌^◌, List, refl, subst, arith}
use Rattle.repl_sync.specs.declared.session.Entry.{Entry}
use Rattle.repl_sync.specs.Inside.{HasRoom}
use Rattle.repl_sync.proofs.Rooms.{kept_prepared}
use Rattle.repl_sync.proofs.prepare.prepare.Goals as goal

pub returns-clause-kept : goal.returns-clause-kept
returns-clause-kept c =
    let p = c.args.parts.now in
    let h = c.in_ok-holding.holding in
    let low : p.last + 1 < 2 ^ 64 = omega (arith, c.if-parts.false, c.requires.ready.last) in
    kept_prepared p c.push.new.self h (p.last + 1) c.requires refl low c.in_ok-holding.ensures.ticket c.in_ok-holding.ensures.prepared
    (subst (λ (xs : List Entry). HasRoom p.list xs h) c.deref.ensures.value c.in_ok-holding.ensures.room) c.in_ok-push.ensures.items
