-- The word after blanks is the number, or none stands there.
use Rattle.std.proofs.Common.{◌≡◌, ◌<◌, sym, ap, subst, ◌∙◌, arith}
use Rattle.std.proofs.lemmas.Grind.{common_steps}
use Rattle.repl_lsn.specs.History.{HasNumber}
use Rattle.repl_lsn.proofs.Blanks.{inked, word_of, past_word}
use Rattle.repl_lsn.proofs.LineWords.{IsNumber, has_number, number_is}
use Rattle.repl_lsn.proofs.history_line.number_of.Goals as goal

pub returns-then-is_empty : goal.returns-then-is_empty
returns-then-is_empty c =
    let word : c.split_word.result.0.now ≡ word_of (inked c.args.line.now) = c.split_word.ensures.word
    ∙ ap word_of c.after_blanks.ensures in
    λ n past h.
    let is : IsNumber c.split_word.result.0.now n = subst (λ w. IsNumber w n) (sym word) (number_is c.args.line.now n past h).0 in
    let some = is.some in
    grind (arith, common_steps)

pub returns-in_err-decimal_value : goal.returns-in_err-decimal_value
returns-in_err-decimal_value c =
    let word : c.split_word.result.0.now ≡ word_of (inked c.args.line.now) = c.split_word.ensures.word
    ∙ ap word_of c.after_blanks.ensures in
    rw c.from_residual.ensures (λ n past h.
    let is : IsNumber c.split_word.result.0.now n = subst (λ w. IsNumber w n) (sym word) (number_is c.args.line.now n past h).0 in
    c.in_err-decimal_value.ensures is.digits)

pub returns-in_default : goal.returns-in_default
returns-in_default c =
    let word : c.split_word.result.0.now ≡ word_of (inked c.args.line.now) = c.split_word.ensures.word
    ∙ ap word_of c.after_blanks.ensures in
    λ n past h.
    let is : IsNumber c.split_word.result.0.now n = subst (λ w. IsNumber w n) (sym word) (number_is c.args.line.now n past h).0 in
    let value = is.value in
    let read = c.in_ok-decimal_value.ensures in
    let low : c.in_ok-decimal_value.field-0 < 4294967296 = omega (arith, read.1) in
    grind (arith, common_steps)

pub returns-in_err-new : goal.returns-in_err-new
returns-in_err-new c =
    let word : c.split_word.result.0.now ≡ word_of (inked c.args.line.now) = c.split_word.ensures.word
    ∙ ap word_of c.after_blanks.ensures in
    rw c.from_residual-in_err-new.ensures (λ n past h.
    let is : IsNumber c.split_word.result.0.now n = subst (λ w. IsNumber w n) (sym word) (number_is c.args.line.now n past h).0 in
    let number = c.in-Ok.ensures in
    let read = c.in_ok-decimal_value.ensures in
    c.in_err-new.ensures (omega (arith, is.value, is.in_range.0, read.1, number.1)))

pub returns : goal.returns
returns c =
    let word : c.split_word.result.0.now ≡ word_of (inked c.args.line.now) = c.split_word.ensures.word
    ∙ ap word_of c.after_blanks.ensures in
    let rest : c.split_word.result.1.now ≡ past_word (inked c.args.line.now) = c.split_word.ensures.rest
    ∙ ap past_word c.after_blanks.ensures in
    let number = c.in-Ok.ensures in
    let tli = c.in_ok-new.ensures in
    let read = c.in_ok-decimal_value.ensures in
    let is : IsNumber c.split_word.result.0.now c.in_ok-new.field-0 =
    record {
      digits = read.0;
      some = grind (arith, common_steps);
      value = omega (arith, read.1, number.0, number.1, tli.1);
      in_range = (omega arith, omega arith);
    } in
    subst (HasNumber c.args.line.now c.in_ok-new.field-0) (sym rest) (has_number c.args.line.now c.in_ok-new.field-0
    (subst (λ w. IsNumber w c.in_ok-new.field-0) word is))
