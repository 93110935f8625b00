-- The file of that name is written to, or made, and the others are as they were.
use Rattle.std.proofs.Common.{◌≡◌, ◌∙◌, ℕ, ◌<◌, ◌≤◌, List, length, get_or, set, sym, ap, subst, rules, Option, Some}
use Rattle.std.specs.List.{insert}
use Rattle.repl_disk.specs.Files.{AreOrdered, found, file_after, Changed}
use Rattle.repl_disk.specs.Stored.{Stored, rewritten, fresh}
use Rattle.repl_disk.proofs.memory_files.write.Goals as goal
use Rattle.repl_disk.proofs.Places.{IsAt, WouldStand, at_from, stands_from, at_within, stands_within, name_at, found_at, found_none, set_changed, insert_changed}

pub index_mut-requires : goal.index_mut-requires
index_mut-requires c =
    let within : c.in-Ok.place < length c.args.files.now.items = at_within c.args.files.now.items c.args.name.now c.in-Ok.place
    (at_from c.deref.result.now c.args.files.now.items c.args.name.now c.in-Ok.place c.in-Ok.ensures c.deref.ensures.value) in
    search rules

pub insert-requires : goal.insert-requires
insert-requires c =
    let within : c.in-Err.place ≤ length c.args.files.now.items = stands_within c.args.files.now.items c.args.name.now c.in-Err.place
    (stands_from c.deref.result.now c.args.files.now.items c.args.name.now c.in-Err.place c.in-Err.ensures c.deref.ensures.value) in
    search rules

-- the file that was written
there : (files : List Stored) (name : List ℕ) (place : ℕ) (file : Stored) → IsAt files name place → file ≡ get_or files place file
    → found files name ≡ Some file
there files name place file here read = found_at files name place file here ∙ ap (λ (f : Stored). Some f) (sym read)

changed : (files : List Stored) (name : List ℕ) (place : ℕ) (file new : Stored) (at : ℕ) (bytes : List ℕ) → IsAt files name place
    → AreOrdered files → file ≡ get_or files place file → new ≡ rewritten file at bytes
    → Changed files (set files place new) name (Some (file_after (found files name) name at bytes))
changed files name place file new at bytes here ordered read is =
    subst (λ (f : Option Stored). Changed files (set files place new) name f) same (set_changed files name place new here named ordered)
  where
    named : new.name ≡ name
    named = ap (λ (f : Stored). f.name) is ∙ ap (λ (f : Stored). f.name) read ∙ name_at files name place file here

    same : Some new ≡ Some (file_after (found files name) name at bytes)
    same = ap (λ (f : Stored). Some f) is ∙ sym
        (ap (λ (o : Option Stored). Some (file_after o name at bytes)) (there files name place file here read))

pub returns-in_ok-write-in-Ok-clause-ok : goal.returns-in_ok-write-in-Ok-clause-ok
returns-in_ok-write-in-Ok-clause-ok c =
    let here : IsAt c.args.files.now.items c.args.name.now c.in-Ok.place = at_from c.deref.result.now c.args.files.now.items c.args.name.now
    c.in-Ok.place c.in-Ok.ensures c.deref.ensures.value in
    changed c.args.files.now.items c.args.name.now c.in-Ok.place c.index_mut.result.now c.write.new.self c.args.at c.args.bytes.now here
    c.requires.ordered c.index_mut.ensures.value c.in_ok-write-in-Ok.ensures.ok

made : (files : List Stored) (name : List ℕ) (place : ℕ) (new : Stored) (at : ℕ) (bytes : List ℕ) → WouldStand files name place
    → AreOrdered files → new ≡ fresh name at bytes
    → Changed files (insert files place new) name (Some (file_after (found files name) name at bytes))
made files name place new at bytes here ordered is =
    subst (λ (f : Option Stored). Changed files (insert files place new) name f) same
    (insert_changed files name place new here (ap (λ (f : Stored). f.name) is) ordered)
  where
    same : Some new ≡ Some (file_after (found files name) name at bytes)
    same = ap (λ (f : Stored). Some f) is ∙ sym
        (ap (λ (o : Option Stored). Some (file_after o name at bytes)) (found_none files name place ordered here))

pub returns-in_ok-insert-in-Err-clause-ok : goal.returns-in_ok-insert-in-Err-clause-ok
returns-in_ok-insert-in-Err-clause-ok c =
    let here : WouldStand c.args.files.now.items c.args.name.now c.in-Err.place =
    stands_from c.deref.result.now c.args.files.now.items c.args.name.now c.in-Err.place c.in-Err.ensures c.deref.ensures.value in
    rw c.in_ok-insert-in-Err.ensures.items
    (made c.args.files.now.items c.args.name.now c.in-Err.place c.in_ok-made-in-Err.field-0 c.args.at c.args.bytes.now here
    c.requires.ordered c.in_ok-made-in-Err.ensures)
