-- The words stop at an argument, or go on by it; after the last they are the tail's.
use Rattle.std.proofs.Common.{◌≡◌, [], get_or, drop, length, sym, subst, arith}
use Rattle.std.proofs.lemmas.Bool.{both_ways}
use Rattle.repl_text.specs.Language.{StopsAt}
use Rattle.repl_args.specs.Words.{texts}
use Rattle.repl_args.specs.Forms.{plain_form}
use Rattle.repl_args.specs.Lines.{IsTail}
use Rattle.repl_args.specs.Rests.{GoesOn, Past, IsPastName}
use Rattle.repl_args.proofs.WordLists.{texts_tail, texts_long}
use Rattle.repl_args.proofs.Lines.{argument, stops_at_argument, past_arguments}
use Rattle.repl_args.proofs.form.read_past_name.Goals as goal

pub returns-then-not-takes_at-clause-wrong : goal.returns-then-not-takes_at-clause-wrong
returns-then-not-takes_at-clause-wrong g c =
    let words = c.args.words.now in
    let ws = texts words in
    let place = c.loop-place.place in
    let form = plain_form c.args.form.now in
    stops_at_argument g.K.Kind.is g.met.K.Kind.some form.arguments form.tail place c.kind-item.result (IsPastName g.K.Kind.is form) ws (omega arith)
    (λ within is. both_ways c.takes_at.result c.if-not-takes_at.true (c.takes_at.ensures.1 (
      omega (arith, texts_long words, within),
      subst (λ k. g.K.Kind.is k (get_or ws place [])) (sym c.kind-item.is) is,
    )))
    c.loop-place.invariant.goes_on

pub loop-place-preserved : goal.loop-place-preserved
loop-place-preserved g c =
    let words = c.args.words.now in
    let ws = texts words in
    let place = c.loop-place.place in
    let form = plain_form c.args.form.now in
    let takes = c.takes_at.ensures.0 c.if-not-takes_at.false in
    record {
      within = omega (arith, takes.0);
      goes_on = argument g.K.Kind.is form.arguments (IsTail g.K.Kind.is form.tail) place c.kind-item.result (IsPastName g.K.Kind.is form) ws
          (omega arith) (omega (arith, texts_long words, takes.0)) (subst (λ k. g.K.Kind.is k (get_or ws place [])) c.kind-item.is takes.1)
          c.loop-place.invariant.goes_on;
    }

pub returns-in-Ok-clause-read : goal.returns-in-Ok-clause-read
returns-in-Ok-clause-read g c =
    let words = c.args.words.now in
    let ws = texts words in
    let form = plain_form c.args.form.now in
    let T = IsTail g.K.Kind.is form.tail in
    let L = IsPastName g.K.Kind.is form in
    let n = length form.arguments in
    let e : c.loop-place.place ≡ n = omega arith in
    let at = subst (λ m. GoesOn L ws (Past g.K.Kind.is (drop m form.arguments) T) m) e c.loop-place.invariant.goes_on in
    let past = past_arguments g.K.Kind.is form.arguments T n L ws (omega arith) at in
    past.is (subst (λ l. T l) (texts_tail words n) c.in-Ok.ensures.read)

pub returns-in-Err-clause-wrong : goal.returns-in-Err-clause-wrong
returns-in-Err-clause-wrong g c =
    let words = c.args.words.now in
    let ws = texts words in
    let form = plain_form c.args.form.now in
    let T = IsTail g.K.Kind.is form.tail in
    let L = IsPastName g.K.Kind.is form in
    let n = length form.arguments in
    let e : c.loop-place.place ≡ n = omega arith in
    let at = subst (λ m. GoesOn L ws (Past g.K.Kind.is (drop m form.arguments) T) m) e c.loop-place.invariant.goes_on in
    let past = past_arguments g.K.Kind.is form.arguments T n L ws (omega arith) at in
    past.stops c.in-Err.place (subst (λ l. StopsAt T l c.in-Err.place) (texts_tail words n) c.in-Err.ensures.wrong)
