-- The file has its new name where it was there, and the call is kept so that it can be taken back.
use Rattle.std.proofs.Common.{◌≡◌, ◌∙◌, List, ◌∷◌, ℕ, ap, sym, rules, subst, string_bytes, None, IsSome}
use Rattle.repl_disk.proofs.history.History.rename.Goals as goal
use Rattle.repl_disk.proofs.Calls.{Renaming, steps_known, renamed_call, renamed_tied, in_folder, not_done}
use Rattle.repl_disk.specs.Calls.{rename_of}
use Rattle.repl_disk.specs.Crash.{Moves}
use Rattle.repl_disk.specs.Files.{found, folder_of}
use Rattle.repl_disk.specs.Folder.{moved}
use Rattle.repl_disk.specs.Memory.{Held, Did}
use Rattle.repl_disk.specs.Stored.{renamed}

pub returns-in_default-clause-done : goal.returns-in_default-clause-done
returns-in_default-clause-done c =
    let none : found c.self.inside.files.items c.args.from.now ≡ None = sym c.in_default.ensures.file in
    not_done c.args.self.now c.self.inside.files.items c.take.new.files.items c.self.inside.past.calls c.args.from.now c.self.view_is
    (search rules) none

pub invariant_of-self-2 : goal.invariant_of-self-2
invariant_of-self-2 c =
    let old : Held = record { files = c.self.inside.files.items; calls = c.self.inside.past.calls } in
    let new : Held = record { files = c.put.new.files.items; calls = c.then-past.result.calls } in
    let name_is : string_bytes c.in_ok-name.name ≡ c.args.to.now = search rules in
    let steps : Renaming old new c.take.new.files.items c.args.from.now c.args.to.now c.in-Some.file c.rename.new.self =
    steps_known old new c.take.new.files.items c.args.from.now c.args.to.now c.in-Some.file c.rename.new.self (sym c.in-Some.ensures.file)
    c.take.ensures.files (c.rename.ensures ∙ ap (λ (n : List ℕ). renamed c.in-Some.file n) name_is) c.in_ok-put.ensures.ok in
    let kept : new.calls ≡ rename_of old.files c.args.from.now c.args.to.now ∷ old.calls = search rules in (
      steps.back_in.ordered,
      renamed_tied old new c.take.new.files.items c.args.from.now c.args.to.now c.in-Some.file c.rename.new.self steps
          kept c.self.invariant.1,
    )

pub returns-clause-there : goal.returns-clause-there
returns-clause-there c =
    subst (λ (h : Held). IsSome (folder_of h.files c.args.from.now)) c.self.view_is
    (in_folder c.self.inside.files.items c.args.from.now c.in-Some.file (sym c.in-Some.ensures.file))

pub returns-clause-done : goal.returns-clause-done
returns-clause-done c =
    let old : Held = record { files = c.self.inside.files.items; calls = c.self.inside.past.calls } in
    let new : Held = record { files = c.put.new.files.items; calls = c.then-past.result.calls } in
    let name_is : string_bytes c.in_ok-name.name ≡ c.args.to.now = search rules in
    let steps : Renaming old new c.take.new.files.items c.args.from.now c.args.to.now c.in-Some.file c.rename.new.self =
    steps_known old new c.take.new.files.items c.args.from.now c.args.to.now c.in-Some.file c.rename.new.self (sym c.in-Some.ensures.file)
    c.take.ensures.files (c.rename.ensures ∙ ap (λ (n : List ℕ). renamed c.in-Some.file n) name_is) c.in_ok-put.ensures.ok in
    let kept : new.calls ≡ rename_of old.files c.args.from.now c.args.to.now ∷ old.calls = search rules in
    subst (λ (h : Held). Did h new (λ folder. moved folder c.args.from.now c.args.to.now)
    (Moves c.args.from.now c.args.to.now)) c.self.view_is
    (renamed_call old new c.take.new.files.items c.args.from.now c.args.to.now c.in-Some.file c.rename.new.self steps kept)
