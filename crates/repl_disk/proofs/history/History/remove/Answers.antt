-- The file is gone where it was there, and the call is kept so that it can be taken back.
use Rattle.std.proofs.Common.{◌≡◌, ◌∷◌, sym, rules, subst, Some, None, IsSome}
use Rattle.repl_disk.proofs.history.History.remove.Goals as goal
use Rattle.repl_disk.proofs.Calls.{removed, removed_tied, in_folder, not_done}
use Rattle.repl_disk.specs.Calls.{removal_of}
use Rattle.repl_disk.specs.Crash.{Removes}
use Rattle.repl_disk.specs.Files.{found, folder_of}
use Rattle.repl_disk.specs.Folder.{put}
use Rattle.repl_disk.specs.Memory.{Held, Did}

pub returns-in_default-clause-done : goal.returns-in_default-clause-done
returns-in_default-clause-done c =
    let none : found c.self.inside.files.items c.args.name.now ≡ None = sym c.in_default.ensures.file in
    not_done c.args.self.now c.self.inside.files.items c.take.new.files.items c.self.inside.past.calls c.args.name.now c.self.view_is
    (search rules) none

pub invariant_of-self-2 : goal.invariant_of-self-2
invariant_of-self-2 c =
    let old : Held = record { files = c.self.inside.files.items; calls = c.self.inside.past.calls } in
    let new : Held = record { files = c.take.new.files.items; calls = c.then-past.result.calls } in
    let is : found old.files c.args.name.now ≡ Some c.in-Some._file = sym c.in-Some.ensures.file in
    let kept : new.calls ≡ removal_of old.files c.args.name.now ∷ old.calls = search rules in
    (c.take.ensures.files.ordered, removed_tied old new c.args.name.now c.in-Some._file is c.take.ensures.files kept c.self.invariant.1)

pub returns-clause-there : goal.returns-clause-there
returns-clause-there c =
    subst (λ (h : Held). IsSome (folder_of h.files c.args.name.now)) c.self.view_is
    (in_folder c.self.inside.files.items c.args.name.now c.in-Some._file (sym c.in-Some.ensures.file))

pub returns-clause-done : goal.returns-clause-done
returns-clause-done c =
    let old : Held = record { files = c.self.inside.files.items; calls = c.self.inside.past.calls } in
    let new : Held = record { files = c.take.new.files.items; calls = c.then-past.result.calls } in
    let is : found old.files c.args.name.now ≡ Some c.in-Some._file = sym c.in-Some.ensures.file in
    let kept : new.calls ≡ removal_of old.files c.args.name.now ∷ old.calls = search rules in
    subst (λ (h : Held). Did h new (λ folder. put folder c.args.name.now None) (Removes c.args.name.now)) c.self.view_is
    (removed old new c.args.name.now c.in-Some._file is c.take.ensures.files kept)
