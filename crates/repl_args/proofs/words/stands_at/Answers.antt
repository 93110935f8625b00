-- The word that was read is the one at the place.
use Rattle.std.proofs.Common.{◌<◌, length, sym, ◌∙◌}
use Rattle.std.proofs.lemmas.Slice.Eq.{bytes_eq-Decides}
use Rattle.repl_args.proofs.WordLists.{text_is}
use Rattle.repl_args.proofs.words.stands_at.Goals as goal

pub returns-in-Some : goal.returns-in-Some
returns-in-Some c =
    let found = c.in-Some.ensures.lookup in
    let there : c.args.place < length c.args.words.now = found.3.0 in
    let read = sym (c.as_str.ensures.value ∙ text_is c.args.words.now c.args.place c.in-Some.word.now there found.1) in
    let same = bytes_eq-Decides c.as_str.result.now c.args.name.now in
    (λ e. (there, read ∙ same.0 (sym c.eq.ensures ∙ e)), λ p. c.eq.ensures ∙ same.1 (sym read ∙ p.1))
