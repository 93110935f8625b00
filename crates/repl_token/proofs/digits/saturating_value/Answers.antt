-- What `saturating_value` needs and ensures.
use Rattle.std.proofs.Common.{arith}
use Rattle.std.proofs.lemmas.Int.Digits.{digits_value_more}
use Rattle.repl_token.proofs.DigitValues.{digit_here}
use Rattle.repl_token.proofs.digits.saturating_value.Goals as goal

pub loop-digit-preserved : goal.loop-digit-preserved
loop-digit-preserved c =
    let digits = c.args.digits.now in
    let i = c.loop-digit.digit-index in
    let more = digits_value_more 10 digits i c.loop-digit-test.true in
    let here = digit_here digits i c.loop-digit-test.true (c.requires i 0 c.loop-digit-test.true) in
    omega (arith, c.saturating_add-value.ensures, c.saturating_mul.ensures, c.from.ensures, c.loop-digit.invariant, more, here.0, here.1)
