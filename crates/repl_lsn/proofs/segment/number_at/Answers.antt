-- One more digit, and where there is none.
use Rattle.std.proofs.Common.{◌+◌, ◌*◌, subst, sym, rules}
use Rattle.repl_lsn.proofs.Halves.{digits_room}
use Rattle.repl_lsn.proofs.NameReading.{UpperAt, upper_none, upper_one_more, number_from_upper, lacks_from_upper}
use Rattle.repl_lsn.proofs.segment.number_at.Goals as goal

pub loop-place-init : goal.loop-place-init
loop-place-init c = upper_none c.args.text.now c.args.start c.requires

pub returns-in_default-clause-refused : goal.returns-in_default-clause-refused
returns-in_default-clause-refused c = lacks_from_upper c.args.text.now c.args.start c.loop-place.value c.loop-place.place
    c.loop-place.invariant c.loop-place-test.true c.in_default.ensures

pub overflow_mul-value : goal.overflow_mul-value
overflow_mul-value c =
    let room = digits_room c.args.text.now c.args.start c.loop-place.value c.loop-place.place c.loop-place.invariant.digits
    c.loop-place-test.true in
    search rules

pub overflow_add-value : goal.overflow_add-value
overflow_add-value c =
    let room = digits_room c.args.text.now c.args.start c.loop-place.value c.loop-place.place c.loop-place.invariant.digits
    c.loop-place-test.true in
    let digit = c.in-Some.ensures in
    search (rules, digit.0, digit.1)

pub loop-place-preserved : goal.loop-place-preserved
loop-place-preserved c =
    let digit = c.in-Some.ensures in
    subst (λ d. UpperAt c.args.text.now c.args.start (c.loop-place.value * 16 + d) (c.loop-place.place + 1)) (sym digit.1)
    (upper_one_more c.args.text.now c.args.start c.loop-place.value c.loop-place.place c.loop-place.invariant digit.0.0
    c.loop-place-test.true digit.0.1)

pub returns-clause-read : goal.returns-clause-read
returns-clause-read c = number_from_upper c.args.text.now c.args.start c.loop-place.value c.loop-place.place c.loop-place.invariant
    c.loop-place-test.false
