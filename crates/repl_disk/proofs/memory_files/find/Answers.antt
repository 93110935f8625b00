-- The file lent is the one of that name.
use Rattle.std.proofs.Common.{◌≡◌, ◌∙◌, ℕ, ◌<◌, List, length, get_or, refl, sym, ap, Option, Some, None, IfSome, IsSome, MatchOption}
use Rattle.std.proofs.lemmas.Bool.{false≢true}
use Rattle.std.specs.Borrow.{Bor}
use Rattle.repl_disk.specs.Files.{bytes_of, folder_of}
use Rattle.repl_disk.specs.Stored.{Stored}
use Rattle.repl_disk.proofs.memory_files.find.Goals as goal
use Rattle.repl_disk.proofs.Folders.{folder_found}
use Rattle.repl_disk.proofs.Places.{IsAt, at_from, stands_from, at_within, found_at, found_none}

-- what is lent is the file of the name
lent : (files : List Stored) (name : List ℕ) (place : ℕ) (r : Option (Bor Stored)) → IsAt files name place
    → IfSome r (λ x. x.now ≡ get_or files place x.now) → IsSome r
    → MatchOption r (folder_of files name ≡ None) (λ file. folder_of files name ≡ Some file.now.bytes)
lent files name place None here is some = absurd (false≢true some)
lent files name place (Some x) here is some = folder_found files name ∙ ap bytes_of (found_at files name place x.now here) ∙ ap
    (λ (f : Stored). Some f.bytes) (sym is)

pub returns-in-Ok : goal.returns-in-Ok
returns-in-Ok c =
    let here : IsAt c.args.files.now c.args.name.now c.in-Ok.place = at_from c.args.files.now c.args.files.now c.args.name.now c.in-Ok.place
    c.in-Ok.ensures refl in
    let within : c.in-Ok.place < length c.args.files.now = at_within c.args.files.now c.args.name.now c.in-Ok.place here in
    lent c.args.files.now c.args.name.now c.in-Ok.place c.get.result here c.get.ensures.lookup.1 (c.get.ensures.lookup.2 within)

pub returns-in-Err : goal.returns-in-Err
returns-in-Err c = folder_found c.args.files.now c.args.name.now ∙ ap bytes_of
    (found_none c.args.files.now c.args.name.now c.in-Err.field-0 c.requires
    (stands_from c.args.files.now c.args.files.now c.args.name.now c.in-Err.field-0 c.in-Err.ensures refl))
