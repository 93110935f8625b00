-- The four fields are the slot's bytes.
use Rattle.std.proofs.Common.{◌≡◌, ◌+◌, length, drop, ap, ◌∙◌, arith}
use Rattle.std.proofs.lemmas.List.{length-take, length-drop}
use Rattle.repl_slots.proofs.Fields.{entry_front}
use Rattle.repl_slots.proofs.read.slot_at.Goals as goal

pub returns-clause-spelled : goal.returns-clause-spelled
returns-clause-spelled c =
    let at = c.args.at in
    let size = c.in_ok-size.size in
    let name = c.in_ok-copied.ensures ∙ c.in_ok-name.ensures.read.1 in
    let len : length c.in_ok-copied.field-0 ≡ size = omega (
      arith,
      ap length name,
      length-take size (drop (at + 1) c.args.file.now),
      length-drop (at + 1) c.args.file.now,
      c.in_ok-name.ensures.read.0.0,
    ) in
    entry_front c.args.file.now at size c.in_ok-flag.flag c.in_ok-copied.field-0 c.in_ok-restart.restart c.in_ok-size.ensures.read.1
    name len c.in_ok-flag.ensures.read.1 c.in_ok-restart.ensures.read.1
