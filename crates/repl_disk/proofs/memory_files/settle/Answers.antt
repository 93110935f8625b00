-- The file of that name is certain as it reads, and the others are as they were.
use Rattle.std.proofs.Common.{◌≡◌, ◌∙◌, ℕ, ◌<◌, List, length, get_or, set, sym, ap, subst, rules, Option, Some, None, option_map, is_some}
use Rattle.repl_disk.specs.Files.{AreOrdered, found, Changed}
use Rattle.repl_disk.specs.Stored.{Stored, settled}
use Rattle.repl_disk.proofs.memory_files.settle.Goals as goal
use Rattle.repl_disk.proofs.Places.{IsAt, at_from, stands_from, at_within, name_at, found_at, found_none, set_changed, none_changed}

pub index_mut-requires : goal.index_mut-requires
index_mut-requires c =
    let within : c.in-Ok.place < length c.args.files.now.items = at_within c.args.files.now.items c.args.name.now c.in-Ok.place
    (at_from c.deref.result.now c.args.files.now.items c.args.name.now c.in-Ok.place c.in-Ok.ensures c.deref.ensures.value) in
    search rules

-- the file that was settled
changed : (files : List Stored) (name : List ℕ) (place : ℕ) (file new : Stored) → IsAt files name place → AreOrdered files
    → file ≡ get_or files place file → new ≡ settled file → Changed files (set files place new) name (option_map settled (found files name))
changed files name place file new here ordered read is =
    subst (λ (f : Option Stored). Changed files (set files place new) name f) same (set_changed files name place new here named ordered)
  where
    named : new.name ≡ name
    named = ap (λ (f : Stored). f.name) is ∙ ap (λ (f : Stored). f.name) read ∙ name_at files name place file here

    same : Some new ≡ option_map settled (found files name)
    same = ap (λ (f : Stored). Some f) (is ∙ ap settled read) ∙ sym
        (ap (λ (o : Option Stored). option_map settled o) (found_at files name place file here))

pub returns-in-Ok-clause-there : goal.returns-in-Ok-clause-there
returns-in-Ok-clause-there c =
    let here : IsAt c.args.files.now.items c.args.name.now c.in-Ok.place = at_from c.deref.result.now c.args.files.now.items c.args.name.now
    c.in-Ok.place c.in-Ok.ensures c.deref.ensures.value in
    sym (ap (λ (o : Option Stored). is_some o) (found_at c.args.files.now.items c.args.name.now c.in-Ok.place c.index_mut.result.now here))

pub returns-in-Ok-clause-files : goal.returns-in-Ok-clause-files
returns-in-Ok-clause-files c =
    let here : IsAt c.args.files.now.items c.args.name.now c.in-Ok.place = at_from c.deref.result.now c.args.files.now.items c.args.name.now
    c.in-Ok.place c.in-Ok.ensures c.deref.ensures.value in
    changed c.args.files.now.items c.args.name.now c.in-Ok.place c.index_mut.result.now c.settle.new.self here c.requires
    c.index_mut.ensures.value c.settle.ensures

pub returns-in-Err-clause-there : goal.returns-in-Err-clause-there
returns-in-Err-clause-there c =
    sym (ap (λ (o : Option Stored). is_some o)
    (found_none c.args.files.now.items c.args.name.now c.in-Err.field-0 c.requires
    (stands_from c.deref.result.now c.args.files.now.items c.args.name.now c.in-Err.field-0 c.in-Err.ensures c.deref.ensures.value)))

pub returns-in-Err-clause-files : goal.returns-in-Err-clause-files
returns-in-Err-clause-files c =
    let none : found c.args.files.now.items c.args.name.now ≡ None = found_none c.args.files.now.items c.args.name.now c.in-Err.field-0
    c.requires (stands_from c.deref.result.now c.args.files.now.items c.args.name.now c.in-Err.field-0 c.in-Err.ensures
    c.deref.ensures.value) in
    subst (λ (f : Option Stored). Changed c.args.files.now.items c.args.files.now.items c.args.name.now (option_map settled f)) (sym none)
    (none_changed c.args.files.now.items c.args.name.now none c.requires)
