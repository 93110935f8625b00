-- The first byte after blanks decides.
use Rattle.std.proofs.Common.{◌≡◌, [], ◌∷◌, drop, refl, sym, ◌∙◌, arith}
use Rattle.std.proofs.lemmas.Bool.{eqb-true, eq-eqb}
use Rattle.std.proofs.lemmas.List.{nil_from_length}
use Rattle.repl_lsn.proofs.Blanks.{inked}
use Rattle.repl_lsn.proofs.Said.{hash_first, ignored_hash, ignored_from_none, ignored_from_hash}
use Rattle.repl_lsn.proofs.history_line.is_ignored.Goals as goal

pub returns-in-None : goal.returns-in-None
returns-in-None c =
    let none : c.after_blanks.result.now ≡ [] = nil_from_length c.after_blanks.result.now (omega (arith, c.in-None.ensures.item.3)) in
    (λ e. ignored_from_none c.args.line.now (sym c.after_blanks.ensures ∙ none), λ e. refl)

pub returns-in-Some : goal.returns-in-Some
returns-in-Some c =
    let item = c.in-Some.ensures.item in
    let first = c.in-Some.first.now in
    let cut : inked c.args.line.now ≡ first ∷ drop 1 c.after_blanks.result.now =
    sym c.after_blanks.ensures ∙ hash_first c.after_blanks.result.now first item.3.0 item.1 in (
      λ e. ignored_from_hash c.args.line.now (drop 1 c.after_blanks.result.now) (let hash = eqb-true first 35 e in cc),
      λ h. eq-eqb first 35 (ignored_hash c.args.line.now first (drop 1 c.after_blanks.result.now) cut h),
    )
