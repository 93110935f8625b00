-- The file of that name is taken out, and the others stay in order.
use Rattle.std.proofs.Common.{◌∙◌, ◌<◌, length, sym, ap, rules, Some}
use Rattle.repl_disk.proofs.memory_files.take.Goals as goal
use Rattle.repl_disk.proofs.Places.{IsAt, at_from, stands_from, at_within, found_at, found_none, remove_changed, none_changed}
use Rattle.repl_disk.specs.Stored.{Stored}

pub remove-requires : goal.remove-requires
remove-requires c =
    let here : IsAt c.args.files.now.items c.args.name.now c.in-Ok.place = at_from c.deref.result.now c.args.files.now.items c.args.name.now
    c.in-Ok.place c.in-Ok.ensures c.deref.ensures.value in
    let within : c.in-Ok.place < length c.args.files.now.items = at_within c.args.files.now.items c.args.name.now c.in-Ok.place here in
    search rules

pub returns-in-Ok-clause-file : goal.returns-in-Ok-clause-file
returns-in-Ok-clause-file c =
    let here : IsAt c.args.files.now.items c.args.name.now c.in-Ok.place = at_from c.deref.result.now c.args.files.now.items c.args.name.now
    c.in-Ok.place c.in-Ok.ensures c.deref.ensures.value in
    ap (λ (f : Stored). Some f) c.remove.ensures.value ∙ sym
    (found_at c.args.files.now.items c.args.name.now c.in-Ok.place c.remove.result here)

pub returns-in-Ok-clause-files : goal.returns-in-Ok-clause-files
returns-in-Ok-clause-files c =
    let here : IsAt c.args.files.now.items c.args.name.now c.in-Ok.place = at_from c.deref.result.now c.args.files.now.items c.args.name.now
    c.in-Ok.place c.in-Ok.ensures c.deref.ensures.value in
    rw c.remove.ensures.items (remove_changed c.args.files.now.items c.args.name.now c.in-Ok.place here c.requires)

pub returns-in-Err-clause-file : goal.returns-in-Err-clause-file
returns-in-Err-clause-file c =
    sym (found_none c.args.files.now.items c.args.name.now c.in-Err.field-0 c.requires
    (stands_from c.deref.result.now c.args.files.now.items c.args.name.now c.in-Err.field-0 c.in-Err.ensures c.deref.ensures.value))

pub returns-in-Err-clause-files : goal.returns-in-Err-clause-files
returns-in-Err-clause-files c =
    none_changed c.args.files.now.items c.args.name.now
    (found_none c.args.files.now.items c.args.name.now c.in-Err.field-0 c.requires
    (stands_from c.deref.result.now c.args.files.now.items c.args.name.now c.in-Err.field-0 c.in-Err.ensures c.deref.ensures.value))
    c.requires
