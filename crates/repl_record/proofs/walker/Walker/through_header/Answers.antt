-- A part of a header is taken: it is not judged yet, it agrees, or it has a fault.
use Rattle.std.proofs.Common.{◌≡◌, ℕ, ◌+◌, ◌%◌, ◌<◌, ◌≤◌, ◌⊎◌, List, ◌++◌, length, take, refl, sym, ap, ◌∙◌, subst, inl, inr, arith}
use Rattle.std.proofs.lemmas.Bool.Decides.{nat_tests}
use Rattle.std.proofs.lemmas.List.{length-take-le}
use Rattle.repl_page.specs.declared.header.PageHeader.{PageHeader}
use Rattle.repl_page.specs.Page.{page_start, header_length}
use Rattle.repl_page.specs.Header.{Agrees, IsPageFault}
use Rattle.repl_record.specs.declared.walker.Walker.{Walker}
use Rattle.repl_record.specs.Moves.{Reached}
use Rattle.repl_record.proofs.WalkerHeader.{header_part, header_goes_on, header_agrees, header_differs, on_log}
use Rattle.repl_record.proofs.walker.Walker.through_header.Goals as goal
use Rattle.repl_record.proofs.walker.Walker.through_header.Goals.{then-taken-left-via-then-taken-left, then-taken-left-via-else-taken-left+then-lt}

pub returns-then-taken-left-clause-moved : goal.returns-then-taken-left-clause-moved
returns-then-taken-left-clause-moved c timeline from prev log s on =
    let w = c.args.self.now in
    let bytes = c.args.bytes.now in
    let taken = c.min-taken.result in
    let part = header_part c.args.tli bytes taken s on c.requires.size c.requires.inside c.requires.some (λ i. omega (
      arith,
      c.type_inv.bytes i,
    )) (omega arith) in
    let all : length (take taken bytes) ≡ taken = length-take-le taken bytes (omega arith) in
    let same_at = ap (λ (n : Walker). n.at) c.self.view_is in
    let same_from : c.keep_header.new.self.from ≡ from = ap (λ (n : Walker). n.from) c.keep_header.ensures ∙ s.keeps.begins in
    let unjudged : (w.at % 8192 + length (take taken bytes) < header_length w.ident.size w.at) ⊎ (page_start w.at < from) =
    elim c.then-taken-left.branch [
      | then-taken-left-via-then-taken-left v ↦ inl (omega (arith, v.if-taken-left.true))
      | then-taken-left-via-else-taken-left+then-lt v ↦ inr (let test = sym v.lt.ensures ∙ v.if-lt.true in grind (arith, nat_tests))
    ] in
    subst (λ (n : Walker). Reached n timeline from prev (log ++ take taken bytes)) (sym c.keep_header.ensures)
    (header_goes_on part unjudged)

pub returns-in-Ok-clause-moved : goal.returns-in-Ok-clause-moved
returns-in-Ok-clause-moved c timeline from prev log s on =
    let w = c.args.self.now in
    let bytes = c.args.bytes.now in
    let taken = c.min-taken.result in
    let part = header_part c.args.tli bytes taken s on c.requires.size c.requires.inside c.requires.some (λ i. omega (
      arith,
      c.type_inv.bytes i,
    )) (omega arith) in
    let all : length (take taken bytes) ≡ taken = length-take-le taken bytes (omega arith) in
    let same_at = ap (λ (n : Walker). n.at) c.self.view_is in
    let same_from : c.keep_header.new.self.from ≡ from = ap (λ (n : Walker). n.from) c.keep_header.ensures ∙ s.keeps.begins in
    let began : from ≤ page_start w.at = let test = sym c.lt.ensures ∙ c.if-lt.false in grind (arith, nat_tests) in
    let ended : w.at % 8192 + length (take taken bytes) ≡ header_length w.ident.size w.at = omega arith in
    let agrees = on_log (λ (due : PageHeader) (t : List ℕ). Agrees due t) part began ended c.keep_header.ensures (omega arith)
    (c.in-Ok.ensures.agrees.0 refl) in
    subst (λ (n : Walker). Reached n timeline from prev (log ++ take taken bytes)) (sym c.keep_header.ensures) (header_agrees part agrees)

pub returns-in-Err-clause-moved : goal.returns-in-Err-clause-moved
returns-in-Err-clause-moved c timeline from prev log s on =
    let w = c.args.self.now in
    let bytes = c.args.bytes.now in
    let taken = c.min-taken.result in
    let part = header_part c.args.tli bytes taken s on c.requires.size c.requires.inside c.requires.some (λ i. omega (
      arith,
      c.type_inv.bytes i,
    )) (omega arith) in
    let all : length (take taken bytes) ≡ taken = length-take-le taken bytes (omega arith) in
    let same_at = ap (λ (n : Walker). n.at) c.self.view_is in
    let same_from : c.keep_header.new.self.from ≡ from = ap (λ (n : Walker). n.from) c.keep_header.ensures ∙ s.keeps.begins in
    let began : from ≤ page_start w.at = let test = sym c.lt.ensures ∙ c.if-lt.false in grind (arith, nat_tests) in
    let ended : w.at % 8192 + length (take taken bytes) ≡ header_length w.ident.size w.at = omega arith in
    header_differs bytes taken c.in-Err.fault (omega arith) (omega arith) part began ended
    (on_log (λ (due : PageHeader) (t : List ℕ). IsPageFault due t c.in-Err.fault) part began ended c.keep_header.ensures (omega arith)
    c.in-Err.ensures.refused)
