-- The row is short.
use Rattle.std.proofs.Common.{◌≤◌, ℕ, List, length, subst, refl, arith}
use Rattle.std.specs.Fmt.{decimal}
use Rattle.repl_identify.proofs.Lengths.{length-answer_row, length-canonical}
use Rattle.repl_identify.proofs.answer.row.Goals as goal

pub returns-clause-small : goal.returns-clause-small
returns-clause-small c =
    let identity = c.args.identity.now in
    let system = c.in_ok-to_string.ensures.digits identity.system refl (omega arith) in
    let timeline = c.in_ok-to_string-2.ensures.digits c.number-timeline.result refl (omega arith) in
    let flushed = subst (λ (text : List ℕ). length text ≤ 17) c.in_ok-text.ensures.exact
    (length-canonical _ _ c.in_ok-text.ensures.canonical) in
    length-answer_row identity system.len_u64 (subst (λ (n : ℕ). length (decimal n) ≤ 20) c.number-timeline.ensures timeline.len_u64)
    flushed
