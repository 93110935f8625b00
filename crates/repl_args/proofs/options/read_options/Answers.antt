-- The words stop at a name that is gone or none, or at a value that is none, or go on by a pair.
use Rattle.std.proofs.Common.{◌≡◌, ◌≢◌, ◌+◌, [], map, get_or, take, All, sym, subst, ◌∙◌, arith}
use Rattle.std.proofs.lemmas.Bool.{both_ways}
use Rattle.repl_args.specs.Words.{texts}
use Rattle.repl_args.specs.Forms.{PlainOption, plain_option}
use Rattle.repl_args.specs.Options.{AreOptions, AreOptionsPast}
use Rattle.repl_args.specs.Rests.{GoesOn}
use Rattle.repl_args.proofs.WordLists.{text_is, texts_front, texts_long}
use Rattle.repl_args.proofs.OptionWords.{name_is_gone, name_is_none, stops_at_name, stops_at_value, pair, has_moved}
use Rattle.repl_args.proofs.options.read_options.Goals as goal

pub returns-then-has_name-clause-wrong : goal.returns-then-has_name-clause-wrong
returns-then-has_name-clause-wrong g c =
    let words = c.args.words.now in
    let ws = texts words in
    let place = c.loop-place.place in
    let options = map plain_option c.args.options.now in
    let named = c.as_str-name.ensures.value ∙ text_is words place c.index-words-place.result (omega arith) c.index-words-place.is in
    let gone = has_moved _ (take place ws) _ (get_or ws place []) (texts_front words place) named
    (c.has_name.ensures.0 c.if-has_name.true) in
    stops_at_name g.K.Kind.is options (AreOptions g.K.Kind.is options) (take place ws) ws place (omega (arith, texts_long words))
    (name_is_gone g.K.Kind.is options (take place ws) (get_or ws place []) gone) c.loop-place.invariant.goes_on

pub returns-in_default-clause-wrong : goal.returns-in_default-clause-wrong
returns-in_default-clause-wrong g c =
    let words = c.args.words.now in
    let ws = texts words in
    let place = c.loop-place.place in
    let options = map plain_option c.args.options.now in
    let named = c.as_str-name.ensures.value ∙ text_is words place c.index-words-place.result (omega arith) c.index-words-place.is in
    let none = subst (λ n. All (λ (o : PlainOption g.row.K.Denot). o.name ≢ n) options) named c.in_default.ensures.none in
    stops_at_name g.K.Kind.is options (AreOptions g.K.Kind.is options) (take place ws) ws place (omega (arith, texts_long words))
    (name_is_none g.K.Kind.is options (take place ws) (get_or ws place []) none) c.loop-place.invariant.goes_on

pub returns-then-not-takes_at-clause-wrong : goal.returns-then-not-takes_at-clause-wrong
returns-then-not-takes_at-clause-wrong g c =
    let words = c.args.words.now in
    let ws = texts words in
    let place = c.loop-place.place in
    let options = map plain_option c.args.options.now in
    let named = c.as_str-name.ensures.value ∙ text_is words place c.index-words-place.result (omega arith) c.index-words-place.is in
    stops_at_value g.K.Kind.is g.met.K.Kind.some options (plain_option c.in-Some.option.now) (AreOptions g.K.Kind.is options) (take place ws) ws
    place (omega (arith, texts_long words))
    (λ h. both_ways c.has_name.result c.if-has_name.false (c.has_name.ensures.1 (has_moved (take place ws) _ (get_or ws place []) _
    (sym (texts_front words place)) (sym named) h)))
    c.in-Some.ensures.one (c.in-Some.ensures.named ∙ named) c.requires
    (λ within is. both_ways c.takes_at.result c.if-not-takes_at.true (c.takes_at.ensures.1 (omega (arith, texts_long words, within), is)))
    c.loop-place.invariant.goes_on

pub loop-place-preserved : goal.loop-place-preserved
loop-place-preserved g c =
    let words = c.args.words.now in
    let ws = texts words in
    let place = c.loop-place.place in
    let options = map plain_option c.args.options.now in
    let L = AreOptions g.K.Kind.is options in
    let takes = c.takes_at.ensures.0 c.if-not-takes_at.false in
    let named = c.as_str-name.ensures.value ∙ text_is words place c.index-words-place.result (omega arith) c.index-words-place.is in
    let e : place + 1 + 1 ≡ place + 2 = omega arith in
    let on = pair g.K.Kind.is options (plain_option c.in-Some.option.now) L ws place (omega (arith, texts_long words, takes.0))
    (λ h. both_ways c.has_name.result c.if-has_name.false (c.has_name.ensures.1 (has_moved (take place ws) _ (get_or ws place []) _
    (sym (texts_front words place)) (sym named) h)))
    c.in-Some.ensures.one (c.in-Some.ensures.named ∙ named) takes.1 c.loop-place.invariant.goes_on in
    record {
      within = omega (arith, takes.0);
      goes_on = subst (λ n. GoesOn L ws (AreOptionsPast g.K.Kind.is options (take n ws)) n) e on;
    }
