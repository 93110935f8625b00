-- What was read is the file, or as much of it as says where it goes wrong.
use Rattle.std.proofs.Common.{refl}
use Rattle.std.proofs.lemmas.Result.{err_from_is_err_and}
use Rattle.repl_slots.proofs.Mounting.{mounts, refuses, slots_are}
use Rattle.repl_slots.proofs.slots.Slots.mount.Goals as goal

pub returns-in_err-list-clause-answer : goal.returns-in_err-list-clause-answer
returns-in_err-list-clause-answer g c =
    let p = err_from_is_err_and c.from_residual.result c.from_residual.ensures.1 in
    rw (p.1, p.2) (refuses (g.D.Disk.state c.args.disk.now).files c.in_err-list.field-0.0 _ c.read_at.new.room c.in-Ok.count
    c.in-Ok.ensures.read refl c.in_err-list.ensures.refused)

pub invariant_of-result : goal.invariant_of-result
invariant_of-result g c = slots_are c.in_ok-list.list.items c.in_ok-list.ensures.read.0 c.in_ok-list.ensures.read.1.0

pub returns-clause-answer : goal.returns-clause-answer
returns-clause-answer g c =
    mounts (g.D.Disk.state c.args.disk.now).files c.in_ok-list.list.items _ c.read_at.new.room c.in-Ok.count c.in-Ok.ensures.read refl
    c.in_ok-list.ensures.read.0 c.in_ok-list.ensures.read.1
