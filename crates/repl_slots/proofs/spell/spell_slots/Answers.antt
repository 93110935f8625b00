-- The parts are appended one after another.
use Rattle.std.proofs.Common.{◌++◌, List, ℕ, ap, ◌∙◌}
use Rattle.repl_slots.specs.SlotFile.{entries_bytes, entries_of, int16, magic}
use Rattle.repl_slots.proofs.Entries.{written_are}
use Rattle.repl_slots.proofs.spell.spell_slots.Goals as goal

pub returns : goal.returns
returns c =
    let slots = c.args.slots.now in
    let entries = entries_of slots in
    let head = c.in_ok-extend_from_slice.ensures.items ∙ ap (λ (l : List ℕ). l ++ magic) c.new-file.ensures.items in
    let version = c.in_ok-extend_from_slice-2.ensures.items ∙ ap (λ (l : List ℕ). l ++ int16 1) head in
    let count = c.in_ok-extend_from_slice-3.ensures.items ∙ ap (λ (l : List ℕ). l ++ c.to_be_bytes.result) version in (
      written_are slots c.requires c.in_ok-put_slots.ensures.fit,
      c.in_ok-put_slots.ensures.ok ∙ ap (λ (l : List ℕ). l ++ entries_bytes entries)
          (count ∙ ap (λ (l : List ℕ). magic ++ (int16 1 ++ l)) (c.to_be_bytes.ensures ∙ ap int16 c.lasting.ensures)),
    )
