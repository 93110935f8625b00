-- The file reads as it was written, and the call is kept so that it can be taken back.
use Rattle.std.proofs.Common.{◌≡◌, ◌∷◌, rules, subst, length}
use Rattle.repl_disk.proofs.history.History.write_at.Goals as goal
use Rattle.repl_disk.proofs.Calls.{Change, wrote, wrote_tied}
use Rattle.repl_disk.specs.Calls.{write_of}
use Rattle.repl_disk.specs.Crash.{Tears}
use Rattle.repl_disk.specs.Folder.{written}
use Rattle.repl_disk.specs.Memory.{Held, Did}

pub invariant_of-self-2 : goal.invariant_of-self-2
invariant_of-self-2 c =
    let old : Held = record { files = c.self.inside.files.items; calls = c.self.inside.past.calls } in
    let new : Held = record { files = c.write.new.files.items; calls = c.then-past.result.calls } in
    let change : Change old new c.args.name.now c.args.at c.args.bytes.now = search rules in
    let kept : new.calls ≡ write_of old.files c.args.name.now c.args.at c.args.bytes.now ∷ old.calls = search rules in
    (change.ordered, wrote_tied old new c.args.name.now c.args.at c.args.bytes.now change kept c.self.invariant.1)

pub returns : goal.returns
returns c =
    let old : Held = record { files = c.self.inside.files.items; calls = c.self.inside.past.calls } in
    let new : Held = record { files = c.write.new.files.items; calls = c.then-past.result.calls } in
    let change : Change old new c.args.name.now c.args.at c.args.bytes.now = search rules in
    let kept : new.calls ≡ write_of old.files c.args.name.now c.args.at c.args.bytes.now ∷ old.calls = search rules in
    subst (λ (h : Held). Did h new (λ folder. written folder c.args.name.now c.args.at c.args.bytes.now)
    (Tears c.args.name.now c.args.at (length c.args.bytes.now))) c.self.view_is
    (wrote old new c.args.name.now c.args.at c.args.bytes.now change kept)
