-- The files with this one put in the place of the one of that name, or between its neighbours.
use Rattle.std.proofs.Common.{◌<◌, ◌≤◌, length, refl, rules}
use Rattle.repl_disk.proofs.memory_files.put.Goals as goal
use Rattle.repl_disk.proofs.Places.{IsAt, WouldStand, at_named, stands_named, at_within, stands_within, set_changed, insert_changed}

pub index_mut-requires : goal.index_mut-requires
index_mut-requires c =
    let within : c.in-Ok.place < length c.args.files.now.items = at_within c.args.files.now.items c.args.file.name c.in-Ok.place
    (at_named c.deref.result.now c.args.files.now.items c.name.result.now c.args.file.name c.in-Ok.place c.in-Ok.ensures
    c.deref.ensures.value c.name.ensures) in
    search rules

pub insert-requires : goal.insert-requires
insert-requires c =
    let within : c.in-Err.place ≤ length c.args.files.now.items = stands_within c.args.files.now.items c.args.file.name c.in-Err.place
    (stands_named c.deref.result.now c.args.files.now.items c.name.result.now c.args.file.name c.in-Err.place c.in-Err.ensures
    c.deref.ensures.value c.name.ensures) in
    search rules

pub returns-in-Ok-clause-ok : goal.returns-in-Ok-clause-ok
returns-in-Ok-clause-ok c =
    let here : IsAt c.args.files.now.items c.args.file.name c.in-Ok.place =
    at_named c.deref.result.now c.args.files.now.items c.name.result.now c.args.file.name c.in-Ok.place c.in-Ok.ensures
    c.deref.ensures.value c.name.ensures in
    set_changed c.args.files.now.items c.args.file.name c.in-Ok.place c.args.file here refl c.requires

pub returns-in_ok-insert-in-Err-clause-ok : goal.returns-in_ok-insert-in-Err-clause-ok
returns-in_ok-insert-in-Err-clause-ok c =
    let here : WouldStand c.args.files.now.items c.args.file.name c.in-Err.place =
    stands_named c.deref.result.now c.args.files.now.items c.name.result.now c.args.file.name c.in-Err.place c.in-Err.ensures
    c.deref.ensures.value c.name.ensures in
    rw c.in_ok-insert-in-Err.ensures.items
    (insert_changed c.args.files.now.items c.args.file.name c.in-Err.place c.args.file here refl c.requires)
