-- One more field is read, or the end of the list.
use Rattle.std.proofs.Common.{◌≡◌, ◌++◌, ◌∷◌, [], length, arith}
use Rattle.std.proofs.lemmas.Result.{err_from_is_err_and}
use Rattle.std.proofs.lemmas.List.{nil_from_length}
use Rattle.repl_message.specs.declared.back.ErrorField.{ErrorField}
use Rattle.repl_wire.proofs.ServerFields.{code_read, text_fails, ends_at_zero, ends_empty}
use Rattle.repl_wire.proofs.server_fields.coded_of.Goals as goal

pub returns-in_default : goal.returns-in_default
returns-in_default c = ends_empty c.loop.fields.items (length c.args.body.now) c.loop.counter c.loop.rest.now _ c.loop-test.true
    (nil_from_length _ c.in_default.ensures.cases) c.loop.invariant

pub returns-then-code-eq0 : goal.returns-then-code-eq0
returns-then-code-eq0 c = ends_at_zero c.loop.fields.items (length c.args.body.now) c.loop.counter c.loop.rest.now _ _ _ c.loop-test.true
    c.in-Some.ensures.cases.0 c.if-code-eq0.true c.loop.invariant

pub returns-in_err-text : goal.returns-in_err-text
returns-in_err-text c =
    let p = err_from_is_err_and c.from_residual.result c.from_residual.ensures.1 in
    rw (p.1, p.2) (text_fails c.in_err-text.field-0.0 c.loop.fields.items (length c.args.body.now) c.loop.counter c.loop.rest.now _ _ _
    c.loop-test.true c.in-Some.ensures.cases.0 (omega (arith, c.if-code-eq0.false)) c.in_err-text.ensures c.loop.invariant)

pub loop-preserved : goal.loop-preserved
loop-preserved c =
    let f : ErrorField = record { code = c.in-Some.code.now; text = c.in_ok-text.text } in
    let e : c.push.new.self.items ≡ c.loop.fields.items ++ f ∷ [] = c.in_ok-push.ensures.items in
    rw e (code_read c.loop.fields.items (length c.args.body.now) c.loop.counter c.loop.rest.now f c.in-Some.past.now
    c.in_ok-text.after.now _ c.loop-test.true c.in-Some.ensures.cases.0 (omega (arith, c.if-code-eq0.false)) c.in_ok-text.ensures
    c.loop.invariant)
