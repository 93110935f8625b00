-- The words stop at the lead, at the command, or after its name, or are a line.
use Rattle.std.proofs.Common.{◌≢◌, ◌+◌, All, refl, subst, ◌∙◌, arith}
use Rattle.repl_text.specs.Language.{StopsAt}
use Rattle.repl_args.specs.Words.{texts}
use Rattle.repl_args.specs.Forms.{PlainForm, plain, plain_form}
use Rattle.repl_args.specs.Rests.{IsPastName}
use Rattle.repl_args.proofs.WordLists.{text_is, texts_tail, texts_long}
use Rattle.repl_args.proofs.Names.{are_apart}
use Rattle.repl_args.proofs.Lines.{stops_at_command, named, reads}
use Rattle.repl_args.proofs.line.read_line.Goals as goal

pub returns-then-first-words-clause-wrong : goal.returns-then-first-words-clause-wrong
returns-then-first-words-clause-wrong g c =
    let words = c.args.words.now in
    let table = plain c.args.table.now in
    let first = c.in-Ok.first in
    record {
      place = first;
      number = refl;
      stops = stops_at_command g.K.Kind.is g.met.K.Kind.some table (texts words) first (are_apart table c.requires)
          (λ within. absurd (omega (arith, texts_long words, within))) c.in-Ok.ensures.goes_on;
    }

pub returns-in_default-clause-wrong : goal.returns-in_default-clause-wrong
returns-in_default-clause-wrong g c =
    let words = c.args.words.now in
    let table = plain c.args.table.now in
    let first = c.in-Ok.first in
    let read = c.as_str.ensures.value ∙ text_is words first c.index-words-first.result (omega arith) c.index-words-first.is in
    record {
      place = first;
      number = refl;
      stops = stops_at_command g.K.Kind.is g.met.K.Kind.some table (texts words) first (are_apart table c.requires)
          (λ within. subst (λ n. All (λ (f : PlainForm g.row.K.Denot g.row.C.Denot). f.name ≢ n) table.forms) read c.in_default.ensures.none)
          c.in-Ok.ensures.goes_on;
    }

pub returns-in-Ok-read_past_name-clause-read : goal.returns-in-Ok-read_past_name-clause-read
returns-in-Ok-read_past_name-clause-read g c =
    let words = c.args.words.now in
    let table = plain c.args.table.now in
    let form = plain_form c.in-Some.form.now in
    let first = c.in-Ok.first in
    let read = c.as_str.ensures.value ∙ text_is words first c.index-words-first.result (omega arith) c.index-words-first.is in
    reads g.K.Kind.is table form (texts words) _ c.in-Some.ensures.one refl (omega (arith, texts_long words)) refl c.in-Ok.ensures.read
    (c.in-Some.ensures.named ∙ read)
    (subst (λ l. IsPastName g.K.Kind.is form l) (texts_tail words (first + 1)) c.in-Ok-read_past_name.ensures.read)

pub returns-in-Err-read_past_name-clause-wrong : goal.returns-in-Err-read_past_name-clause-wrong
returns-in-Err-read_past_name-clause-wrong g c =
    let words = c.args.words.now in
    let table = plain c.args.table.now in
    let form = plain_form c.in-Some.form.now in
    let first = c.in-Ok.first in
    let place = c.in-Err-read_past_name.place in
    let read = c.as_str.ensures.value ∙ text_is words first c.index-words-first.result (omega arith) c.index-words-first.is in
    let on = named g.K.Kind.is table form (texts words) first (are_apart table c.requires) c.in-Some.ensures.one
    (omega (arith, texts_long words)) (c.in-Some.ensures.named ∙ read) c.in-Ok.ensures.goes_on in
    record {
      place = first + 1 + place;
      number = omega arith;
      stops = on.stops place (subst (λ l. StopsAt (IsPastName g.K.Kind.is form) l place) (texts_tail words (first + 1))
          c.in-Err-read_past_name.ensures.wrong);
    }
