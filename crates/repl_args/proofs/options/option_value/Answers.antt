-- The first pair has the name, or those after it have what all have.
use Rattle.std.proofs.Common.{◌≡◌, ◌≢◌, ◌<◌, ◌+◌, drop, length, ◌≤◌, sym, subst, ◌∙◌, arith, rules}
use Rattle.repl_args.specs.Words.{texts}
use Rattle.repl_args.specs.Options.{HasValue}
use Rattle.repl_args.proofs.WordLists.{text_is, texts_long}
use Rattle.repl_args.proofs.OptionWords.{has_here, has_later, has_only_later, has_none_past}
use Rattle.repl_args.proofs.options.option_value.Goals as goal
use Rattle.repl_args.proofs.options.option_value.Goals.{then-loop-place-test+else-words-place-gt1, else-loop-place-test}

pub returns-then-eq-clause-some : goal.returns-then-eq-clause-some
returns-then-eq-clause-some c =
    let words = c.args.words.now in
    let place = c.loop-place.place in
    let is_name : c.as_str.result.now ≡ c.args.name.now = search rules in
    let first = c.as_str.ensures.value ∙ text_is words place c.index-words-place.result (omega arith) c.index-words-place.is in
    let second = c.as_str-then-eq.ensures.value ∙ text_is words (place + 1) c.index-words-place-then-eq.result (omega arith) c.index-words-place-then-eq.is in
    c.loop-place.invariant.here c.as_str-then-eq.result.now
    (subst (λ v. HasValue (drop place (texts words)) c.args.name.now v) (sym second)
    (has_here (texts words) place c.args.name.now (omega (arith, texts_long words)) (sym first ∙ is_name)))

pub loop-place-preserved : goal.loop-place-preserved
loop-place-preserved c =
    let words = c.args.words.now in
    let place = c.loop-place.place in
    let differs : c.as_str.result.now ≢ c.args.name.now = search rules in
    let first = c.as_str.ensures.value ∙ text_is words place c.index-words-place.result (omega arith) c.index-words-place.is in
    let within : place + 1 < length (texts words) = omega (arith, texts_long words) in
    record {
      here = λ value h. c.loop-place.invariant.here value (has_later (texts words) place c.args.name.now value within h);
      there = λ value h. has_only_later (texts words) place c.args.name.now value within (λ e. differs (first ∙ e))
          (c.loop-place.invariant.there value h);
    }

pub returns-clause-none : goal.returns-clause-none
returns-clause-none c =
    let words = c.args.words.now in
    let place = c.loop-place.place in
    let short : length words ≤ place + 1 =
    elim c.loop-place-test.branch [
      | then-loop-place-test+else-words-place-gt1 w ↦ omega arith
      | else-loop-place-test w ↦ omega arith
    ] in
    λ h. has_none_past (texts words) place c.args.name.now h.0 (omega (arith, texts_long words, short)) (c.loop-place.invariant.there h.0 h.1)
