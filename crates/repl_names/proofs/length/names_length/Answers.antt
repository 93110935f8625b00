-- What `names_length` needs and ensures.
use Rattle.std.proofs.Common.{◌+◌, length, ap, subst, ◌∙◌, arith}
use Rattle.std.proofs.lemmas.List.Sums.{sum_by_more}
use Rattle.std.proofs.lemmas.List.Elements.{All-more}
use Rattle.repl_text.specs.Text.{IsText}
use Rattle.repl_names.specs.StandbyList.{name_spelling}
use Rattle.repl_names.proofs.length.names_length.Goals as goal

pub loop-name-preserved : goal.loop-name-preserved
loop-name-preserved c =
    let names = c.args.names.now in
    let i = c.loop-name.name-index in
    let name = c.name-item.result in
    let more = sum_by_more (λ n. length (name_spelling n) + 2) names i name c.loop-name-test.true in
    let here = ap (λ n. length (name_spelling n)) (c.as_slice.ensures.value ∙ c.name-item.is) in
    record {
      exact = omega (
        arith,
        c.saturating_add-total.ensures,
        c.saturating_add.ensures,
        c.name_length.ensures,
        c.loop-name.invariant.exact,
        more,
        here,
      );
      texts = All-more IsText names i name c.loop-name-test.true c.loop-name.invariant.texts
          (subst IsText c.name-item.is c.as_slice.ensures.text);
    }
