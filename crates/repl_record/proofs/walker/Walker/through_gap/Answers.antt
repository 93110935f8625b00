-- A part of the gap is taken: all of it is zero, or the first byte that is not is a fault.
use Rattle.std.proofs.Common.{◌≡◌, ℕ, ◌<◌, ◌++◌, length, take, get_or, sym, ap, ◌∙◌, subst, arith, rules}
use Rattle.std.proofs.lemmas.Iterator.{YieldsList-from_slice}
use Rattle.std.proofs.lemmas.Iterator.Search.{any_from_yields_List}
use Rattle.std.proofs.lemmas.List.{get_or-take, length-take-le}
use borrow.Author.Tests.{tests}
use Rattle.repl_record.specs.declared.walker.Walker.{Walker}
use Rattle.repl_record.specs.Moves.{Reached}
use Rattle.repl_record.specs.Record.{start_of}
use Rattle.repl_record.proofs.WalkerGap.{all_zero, first_other, gap_differs, gap_goes_on, gap_part, is_other}
use Rattle.repl_record.proofs.walker.Walker.through_gap.Goals as goal

pub returns-then-any-clause-moved : goal.returns-then-any-clause-moved
returns-then-any-clause-moved c timeline from prev log s =
    let w = c.args.self.now in
    let bytes = c.args.bytes.now in
    let taken = c.min-taken.result in
    let same_at = ap (λ (n : Walker). n.at) c.self.view_is in
    let part = gap_part bytes taken s c.requires.size c.requires.outside c.requires.finished c.requires.some (λ i. omega (
      arith,
      c.type_inv.bytes i,
    )) (omega arith) in
    let any = any_from_yields_List is_other _ _ c.any.result c.any.ensures.ran (YieldsList-from_slice (take taken bytes) cc) (λ x b q k.
    search (rules, tests)) in
    let start : c.start.result ≡ start_of w.ident.size from = c.start.ensures (omega (arith, s.keeps.begins, s.keeps.past))
    ∙ ap (start_of w.ident.size) s.keeps.begins in
    gap_differs part (first_other (take taken bytes) (sym any ∙ c.if-any.true)) start

pub returns-clause-moved : goal.returns-clause-moved
returns-clause-moved c timeline from prev log s =
    let w = c.args.self.now in
    let bytes = c.args.bytes.now in
    let taken = c.min-taken.result in
    let same_at = ap (λ (n : Walker). n.at) c.self.view_is in
    let part = gap_part bytes taken s c.requires.size c.requires.outside c.requires.finished c.requires.some (λ i. omega (
      arith,
      c.type_inv.bytes i,
    )) (omega arith) in
    let any = any_from_yields_List is_other _ _ c.any.result c.any.ensures.ran (YieldsList-from_slice (take taken bytes) cc) (λ x b q k.
    search (rules, tests)) in
    let all : length (take taken bytes) ≡ taken = length-take-le taken bytes (omega arith) in
    let zeros = all_zero (take taken bytes) (sym any ∙ c.if-any.false) in
    let zero : (i : ℕ) → i < taken → get_or bytes i 0 ≡ 0 = λ i below. sym (get_or-take taken bytes i 0 below) ∙ zeros i (omega arith) in
    subst (λ (n : Walker). Reached n timeline from prev (log ++ take taken bytes)) (sym c.pass_gap.ensures) (gap_goes_on part zero)
