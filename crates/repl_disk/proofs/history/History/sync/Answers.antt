-- What the file reads is certain where it was there, and the call is kept.
use Rattle.std.proofs.Common.{◌≡◌, ◌∙◌, ◌∷◌, true, false, sym, rules, subst, None, IsSome}
use Rattle.repl_disk.proofs.history.History.sync.Goals as goal
use Rattle.repl_disk.proofs.Calls.{synced_if, found_if, none_if, not_done, lets_go}
use Rattle.repl_disk.specs.Calls as done
use Rattle.repl_disk.specs.Crash.{Syncs}
use Rattle.repl_disk.specs.Files.{found, folder_of}
use Rattle.repl_disk.specs.Memory.{Held, Did}

pub returns-then-not-settle-clause-done : goal.returns-then-not-settle-clause-done
returns-then-not-settle-clause-done c =
    let answer : c.settle.result ≡ false = search rules in
    let none : found c.self.inside.files.items c.args.name.now ≡ None = none_if c.self.inside.files.items c.args.name.now
    (sym c.settle.ensures.there ∙ answer) in
    not_done c.args.self.now c.self.inside.files.items c.settle.new.files.items c.self.inside.past.calls c.args.name.now c.self.view_is
    (c.settle.ensures.none answer) none

pub invariant_of-self-2 : goal.invariant_of-self-2
invariant_of-self-2 c =
    let answer : c.settle.result ≡ true = search rules in
    let old : Held = record { files = c.self.inside.files.items; calls = c.self.inside.past.calls } in
    let new : Held = record { files = c.settle.new.files.items; calls = c.then-past.result.calls } in
    let kept : new.calls ≡ done.Synced c.args.name.now ∷ old.calls = search rules in (
      c.settle.ensures.files.ordered,
      (synced_if old new c.args.name.now (sym c.settle.ensures.there ∙ answer) c.settle.ensures.files kept).1 c.self.invariant.1,
    )

pub returns-clause-there : goal.returns-clause-there
returns-clause-there c =
    let answer : c.settle.result ≡ true = search rules in
    subst (λ (h : Held). IsSome (folder_of h.files c.args.name.now)) c.self.view_is
    (found_if c.self.inside.files.items c.args.name.now (sym c.settle.ensures.there ∙ answer))

pub returns-clause-done : goal.returns-clause-done
returns-clause-done c =
    let answer : c.settle.result ≡ true = search rules in
    let old : Held = record { files = c.self.inside.files.items; calls = c.self.inside.past.calls } in
    let new : Held = record { files = c.settle.new.files.items; calls = c.then-past.result.calls } in
    let kept : new.calls ≡ done.Synced c.args.name.now ∷ old.calls = search rules in
    subst (λ (h : Held). Did h new (λ folder. folder) (Syncs c.args.name.now (folder_of h.files c.args.name.now))) c.self.view_is
    (synced_if old new c.args.name.now (sym c.settle.ensures.there ∙ answer) c.settle.ensures.files kept).0

pub returns-clause-lets_go : goal.returns-clause-lets_go
returns-clause-lets_go c = lets_go c.self.inside.files.items c.settle.new.files.items c.args.name.now c.settle.ensures.files
