-- One slot more is counted.
use Rattle.std.proofs.Common.{[], ◌∷◌, length, take, arith, ap, ◌∙◌}
use Rattle.std.proofs.lemmas.List.{length-append}
use Rattle.repl_slots.specs.SlotFile.{entries_of}
use Rattle.repl_slots.proofs.Entries.{entries_more}
use Rattle.repl_slots.proofs.spell.lasting.Goals as goal

pub loop-slot-preserved : goal.loop-slot-preserved
loop-slot-preserved c =
    let i = c.loop-slot.slot-index in
    let slots = c.args.slots.now in
    let slot = c.slot-item.result in
    let more = ap length (entries_more slots i slot (omega arith) c.slot-item.is)
    ∙ length-append (entries_of (take i slots)) (entries_of (slot ∷ [])) in (
      omega (arith, more, c.written-count.ensures.count, c.loop-slot.invariant.0),
      omega (
        arith,
        c.written-count.ensures.once,
        c.loop-slot.invariant.1,
      ),
    )
