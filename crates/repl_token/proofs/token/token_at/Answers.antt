-- What `token_at` needs and ensures.
use Rattle.std.proofs.Common.{sym, ◌∙◌}
use Rattle.repl_token.proofs.Steps.{word_token, number_token}
use Rattle.repl_token.proofs.token.token_at.Goals as goal

pub returns-in_ok-copied-in-Letter-clause-is : goal.returns-in_ok-copied-in-Letter-clause-is
returns-in_ok-copied-in-Letter-clause-is g c =
    let token = c.in_ok-copied-in-Letter.ensures in
    word_token g.L.Lexicon.class_of _ _ c.args.rest.now c.word_bytes-size.result token.0 token.2 c.word_bytes-size.ensures.count
    c.requires.some
    (sym c.class.ensures ∙ c.in-Letter.is)

pub returns-in_ok-copied-in-Digit-clause-is : goal.returns-in_ok-copied-in-Digit-clause-is
returns-in_ok-copied-in-Digit-clause-is g c =
    let token = c.in_ok-copied-in-Digit.ensures in
    number_token g.L.Lexicon.class_of _ _ c.args.rest.now c.digits-size.result token.0 token.2 c.digits-size.ensures.count c.requires.some
    (sym c.class.ensures ∙ c.in-Digit.is)
