-- One more digit, and where there is none.
use Rattle.std.proofs.Common.{◌+◌, ◌*◌, subst, sym, rules}
use Rattle.repl_lsn.proofs.Halves.{DigitsAt, digits_room, digits_one_more}
use Rattle.repl_lsn.proofs.position.half_at.Goals as goal

pub overflow_mul-value : goal.overflow_mul-value
overflow_mul-value c =
    let room = digits_room c.args.text.now c.args.start c.loop-end.value c.loop-end.end c.loop-end.invariant c.if-end-start.true in
    search rules

pub overflow_add-value : goal.overflow_add-value
overflow_add-value c =
    let room = digits_room c.args.text.now c.args.start c.loop-end.value c.loop-end.end c.loop-end.invariant c.if-end-start.true in
    let digit = c.in-Some.ensures.value in
    search (rules, digit.0, digit.1)

pub loop-end-preserved : goal.loop-end-preserved
loop-end-preserved c =
    let digit = c.in-Some.ensures.value in
    subst (λ d. DigitsAt c.args.text.now c.args.start (c.loop-end.value * 16 + d) (c.loop-end.end + 1)) (sym digit.1)
    (digits_one_more c.args.text.now c.args.start c.loop-end.value c.loop-end.end c.loop-end.invariant c.loop-end-test.true
    c.if-end-start.true digit.0)
