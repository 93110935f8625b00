-- One more digit.
use Rattle.std.proofs.Common.{◌≡◌, true, get_or, arith}
use Rattle.std.proofs.lemmas.Grind.{common_steps}
use Rattle.std.proofs.lemmas.Int.Digits.{digits_value_more}
use Rattle.std.specs.Char.{is_ascii_digit}
use Rattle.std.proofs.lemmas.List.Elements.{All-more}
use Rattle.repl_lsn.proofs.Digits.{digit_here}
use Rattle.repl_lsn.proofs.history_line.decimal_value.Goals as goal

pub loop-digit-preserved : goal.loop-digit-preserved
loop-digit-preserved c =
    let digits = c.args.digits.now in
    let i = c.loop-digit.digit-index in
    let here : is_ascii_digit (get_or digits i 0) ≡ true = grind (arith, common_steps) in
    let more = digits_value_more 10 digits i c.loop-digit-test.true in
    let digit = digit_here digits i c.loop-digit-test.true here in
    record {
      digits = All-more (λ c. is_ascii_digit c ≡ true) digits i 0 c.loop-digit-test.true c.loop-digit.invariant.digits here;
      value = omega (
        arith,
        c.saturating_add-value.ensures,
        c.saturating_mul.ensures,
        c.from.ensures,
        c.loop-digit.invariant.value,
        more,
        digit.0,
        digit.1,
      );
    }
