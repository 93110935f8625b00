-- The word after blanks is the position, or none stands there.
use Rattle.std.proofs.Common.{◌≡◌, sym, ap, subst, ◌∙◌}
use Rattle.repl_lsn.specs.Position.{Spells}
use Rattle.repl_lsn.specs.History.{HasSwitch}
use Rattle.repl_lsn.proofs.Blanks.{inked, word_of, past_word}
use Rattle.repl_lsn.proofs.LineWords.{has_switch, switch_is}
use Rattle.repl_lsn.proofs.history_line.switch_of.Goals as goal

pub returns-in-Ok : goal.returns-in-Ok
returns-in-Ok c =
    let word : c.split_word.result.0.now ≡ word_of (inked c.args.bytes.now) = c.split_word.ensures.word
    ∙ ap word_of c.after_blanks.ensures in
    let rest : c.split_word.result.1.now ≡ past_word (inked c.args.bytes.now) = c.split_word.ensures.rest
    ∙ ap past_word c.after_blanks.ensures in
    subst (HasSwitch c.args.bytes.now c.in-Ok.switch) (sym rest)
    (has_switch c.args.bytes.now c.in-Ok.switch c.requires (subst (λ w. Spells w c.in-Ok.switch) word c.in-Ok.ensures.read))

pub returns-in-Err : goal.returns-in-Err
returns-in-Err c =
    let word : c.split_word.result.0.now ≡ word_of (inked c.args.bytes.now) = c.split_word.ensures.word
    ∙ ap word_of c.after_blanks.ensures in
    λ switch past h.
    c.in-Err.ensures.refused.refused (switch, subst (λ w. Spells w switch) (sym word) (switch_is c.args.bytes.now switch past h).0)
