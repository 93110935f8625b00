-- One more parameter is read, or the end of the list.
use Rattle.std.proofs.Common.{◌≡◌, ◌++◌, ◌∷◌, [], length, arith}
use Rattle.std.proofs.lemmas.Result.{err_from_is_err_and}
use Rattle.std.proofs.lemmas.List.{nil_from_length}
use Rattle.repl_wire.proofs.PairLaws.{goes_on, ends_at_zero, ends_empty, ends_in_name, ends_in_value}
use Rattle.repl_wire.proofs.fields.pairs_of.Goals as goal

pub returns-in_default : goal.returns-in_default
returns-in_default c = ends_empty c.loop.pairs.items (length c.args.body.now) c.loop.counter c.loop.rest.now _ c.loop-test.true
    (nil_from_length _ c.in_default.ensures.cases) c.loop.invariant

pub returns-then-first-eq0 : goal.returns-then-first-eq0
returns-then-first-eq0 c = ends_at_zero c.loop.pairs.items (length c.args.body.now) c.loop.counter c.loop.rest.now _ _ _ c.loop-test.true
    c.in-Some.ensures.cases.0 c.if-first-eq0.true c.loop.invariant

pub returns-in_err-name : goal.returns-in_err-name
returns-in_err-name c =
    let p = err_from_is_err_and c.from_residual.result c.from_residual.ensures.1 in
    rw (p.1, p.2) (ends_in_name c.in_err-name.field-0.0 c.loop.pairs.items (length c.args.body.now) c.loop.counter c.loop.rest.now _ _ _
    c.loop-test.true c.in-Some.ensures.cases.0 (omega (arith, c.if-first-eq0.false)) c.in_err-name.ensures c.loop.invariant)

pub returns-in_err-value : goal.returns-in_err-value
returns-in_err-value c =
    let p = err_from_is_err_and c.from_residual-in_err-value.result c.from_residual-in_err-value.ensures.1 in
    rw (p.1, p.2) (ends_in_value c.in_err-value.field-0.0 c.loop.pairs.items (length c.args.body.now) c.loop.counter c.loop.rest.now
    c.in_ok-name.name c.in_ok-name.after.now _ _ _ c.loop-test.true c.in-Some.ensures.cases.0 (omega (arith, c.if-first-eq0.false))
    c.in_ok-name.ensures c.in_err-value.ensures c.loop.invariant)

pub loop-preserved : goal.loop-preserved
loop-preserved c =
    let e : c.push.new.self.items ≡ c.loop.pairs.items ++ record { name = c.in_ok-name.name; value = c.in_ok-value.value } ∷ [] =
    c.in_ok-push.ensures.items in
    rw e (goes_on c.loop.pairs.items (length c.args.body.now) c.loop.counter c.loop.rest.now
    (record { name = c.in_ok-name.name; value = c.in_ok-value.value }) c.in_ok-name.after.now c.in_ok-value.after.now _ _ _
    c.loop-test.true c.in-Some.ensures.cases.0 (omega (arith, c.if-first-eq0.false)) c.in_ok-name.ensures c.in_ok-value.ensures
    c.loop.invariant)
