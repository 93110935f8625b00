-- One slot more is appended.
use Rattle.std.proofs.Common.{◌++◌, [], ◌∷◌, take, arith, ap, sym, subst, ◌∙◌, append_assoc}
use Rattle.repl_slots.specs.SlotFile.{AreEach, entries_bytes, entries_of}
use Rattle.repl_slots.proofs.Entries.{bytes_append, each_append, entries_more}
use Rattle.repl_slots.proofs.spell.put_slots.Goals as goal

pub loop-slot-preserved : goal.loop-slot-preserved
loop-slot-preserved c =
    let i = c.loop-slot.slot-index in
    let slots = c.args.slots.now in
    let slot = c.slot-item.result in
    let old = c.args.file.now.items in
    let before = entries_of (take i slots) in
    let one = entries_of (slot ∷ []) in
    let more = entries_more slots i slot (omega arith) c.slot-item.is in (
      c.in_ok-put_slot.ensures.ok ∙ ap (λ l. l ++ entries_bytes one) c.loop-slot.invariant.0
          ∙ append_assoc old (entries_bytes before) (entries_bytes one)
          ∙ ap (λ l. old ++ l) (sym (bytes_append before one))
          ∙ ap (λ l. old ++ entries_bytes l) (sym more),
      subst AreEach (sym more) (each_append before one c.loop-slot.invariant.1 c.in_ok-put_slot.ensures.fit),
    )
