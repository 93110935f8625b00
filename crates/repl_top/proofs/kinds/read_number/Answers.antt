-- One digit more, or a byte that is none, or a value that is too large.
use Rattle.std.proofs.Common.{◌+◌, subst, arith}
use Rattle.repl_top.proofs.Digits.{ReadsDigits, digits_one_more, not_number, front_at_most}
use Rattle.repl_top.proofs.kinds.read_number.Goals as goal

pub returns-in_err-digit-clause-none : goal.returns-in_err-digit-clause-none
returns-in_err-digit-clause-none c =
    rw c.from_residual.ensures
    (λ n d l. not_number c.args.base c.as_bytes-byte-items.result.now c.loop-byte.byte-index n c.loop-byte-test.true c.in_err-digit.ensures.value
    (rw c.as_bytes-byte-items.ensures.value d))

pub returns-in_err-checked_mul-clause-none : goal.returns-in_err-checked_mul-clause-none
returns-in_err-checked_mul-clause-none c =
    rw c.from_residual-in_err-checked_mul.ensures
    (λ n d l.
    let most = front_at_most c.args.base c.as_bytes-byte-items.result.now c.loop-byte.byte-index c.loop-byte.value n (omega (arith, c.requires)) c.loop-byte.invariant
    c.loop-byte-test.true (rw c.as_bytes-byte-items.ensures.value d) in
    omega (arith, c.in_err-checked_mul.ensures, c.ranges.limit))

pub returns-in_err-value-clause-none : goal.returns-in_err-value-clause-none
returns-in_err-value-clause-none c =
    rw c.from_residual-in_err-value.ensures
    (λ n d l.
    let most = front_at_most c.args.base c.as_bytes-byte-items.result.now c.loop-byte.byte-index c.loop-byte.value n (omega (arith, c.requires)) c.loop-byte.invariant
    c.loop-byte-test.true (rw c.as_bytes-byte-items.ensures.value d) in
    omega (arith, c.in_err-value.ensures, c.in_ok-checked_mul.ensures, c.in_ok-digit.ensures.value, c.ranges.limit))

pub loop-byte-preserved : goal.loop-byte-preserved
loop-byte-preserved c =
    let digit = c.in_ok-digit.ensures.value in
    let more = digits_one_more c.args.base c.as_bytes-byte-items.result.now c.loop-byte.byte-index c.loop-byte.value c.in_ok-digit.digit
    c.loop-byte.invariant c.loop-byte-test.true digit.1 (omega (arith, digit)) in
    subst (λ value. ReadsDigits c.args.base c.as_bytes-byte-items.result.now (c.loop-byte.byte-index + 1) value)
    (omega (arith, c.in_ok-value.ensures, c.in_ok-checked_mul.ensures)) more
