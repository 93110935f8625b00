-- The bytes are those of the number.
use Rattle.std.proofs.Common.{◌≡◌, ◌∷◌, List, ℕ, ap, ◌∙◌, arith}
use Rattle.repl_slots.specs.SlotFile.{field}
use Rattle.repl_slots.proofs.Fields.{long_field}
use Rattle.repl_slots.proofs.read.position_at.Goals as goal

pub returns-in_default-clause-read : goal.returns-in_default-clause-read
returns-in_default-clause-read c =
    let file = c.args.file.now in
    let at = c.args.at in
    let read = c.in_ok-field_at.ensures.read in
    let not_zero = c.in_default.is-0.1 in
    let flag_is : c.args.flag ≡ 1 = omega (arith, c.requires.flag, not_zero) in (
      read.0,
      ap (λ (k : ℕ). k ∷ field at 8 file) flag_is ∙ ap (λ (l : List ℕ). 1 ∷ l)
          (long_field file at c.read_u64-position.result c.in_ok-field_at.field-0.now (λ i. omega (arith, c.type_inv.file i)) read.0 read.1
          c.read_u64-position.ensures),
    )
