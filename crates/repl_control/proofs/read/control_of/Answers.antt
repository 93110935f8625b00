-- Each number that is wrong is the first, since those before it are right.
use Rattle.std.proofs.Common.{arith}
use Rattle.std.proofs.lemmas.Bool.{eqb-true, eqb-false}
use Rattle.std.proofs.lemmas.Result.{err_from_is_err_and}
use Rattle.repl_control.proofs.First.{wrong_mark, wrong_version, wrong_role, wrong_zero, wrong_timeline, wrong_padding, role_said, no_role}
use Rattle.repl_control.proofs.read.control_of.Goals as goal

pub returns-in_err-expect-clause-refused : goal.returns-in_err-expect-clause-refused
returns-in_err-expect-clause-refused c =
    let p = err_from_is_err_and c.from_residual.result c.from_residual.ensures.1 in
    let said = c.in_err-expect.ensures in
    rw (p.1, p.2) (λ size. wrong_mark size _ c.args.fields.now (eqb-false _ _ said.0) said.1)

pub returns-in_err-expect-2-clause-refused : goal.returns-in_err-expect-2-clause-refused
returns-in_err-expect-2-clause-refused c =
    let p = err_from_is_err_and c.from_residual-in_err-expect-2.result c.from_residual-in_err-expect-2.ensures.1 in
    let said = c.in_err-expect-2.ensures in
    let mark = eqb-true _ _ c.in_ok-expect.ensures in
    rw (p.1, p.2) (λ size. wrong_version size _ c.args.fields.now mark (eqb-false _ _ said.0) said.1)

pub returns-in_err-role-clause-refused : goal.returns-in_err-role-clause-refused
returns-in_err-role-clause-refused c =
    let p = err_from_is_err_and c.from_residual-in_err-role.result c.from_residual-in_err-role.ensures.1 in
    let said = c.in_err-role.ensures in
    let mark = eqb-true _ _ c.in_ok-expect.ensures in
    let version = eqb-true _ _ c.in_ok-expect-2.ensures in
    rw (p.1, p.2) (λ size. wrong_role size _ c.args.fields.now mark version (no_role _ said.0 said.1) said.2)

pub returns-in_err-expect-3-clause-refused : goal.returns-in_err-expect-3-clause-refused
returns-in_err-expect-3-clause-refused c =
    let p = err_from_is_err_and c.from_residual-in_err-expect-3.result c.from_residual-in_err-expect-3.ensures.1 in
    let said = c.in_err-expect-3.ensures in
    let mark = eqb-true _ _ c.in_ok-expect.ensures in
    let version = eqb-true _ _ c.in_ok-expect-2.ensures in
    let role = role_said _ _ c.in_ok-role.ensures in
    rw (p.1, p.2) (λ size. wrong_zero size _ c.args.fields.now mark version role (eqb-false _ _ said.0) said.1)

pub returns-in_err-tli-clause-refused : goal.returns-in_err-tli-clause-refused
returns-in_err-tli-clause-refused c =
    let p = err_from_is_err_and c.from_residual-in_err-tli.result c.from_residual-in_err-tli.ensures.1 in
    let said = c.in_err-tli.ensures in
    let mark = eqb-true _ _ c.in_ok-expect.ensures in
    let version = eqb-true _ _ c.in_ok-expect-2.ensures in
    let role = role_said _ _ c.in_ok-role.ensures in
    let zero = eqb-true _ _ c.in_ok-expect-3.ensures in
    rw (p.1, p.2) (λ size. wrong_timeline size _ c.args.fields.now mark version role zero (λ above. omega (arith, said.0)) said.1)

pub returns-in_err-expect-4-clause-refused : goal.returns-in_err-expect-4-clause-refused
returns-in_err-expect-4-clause-refused c =
    let p = err_from_is_err_and c.from_residual-in_err-expect-4.result c.from_residual-in_err-expect-4.ensures.1 in
    let said = c.in_err-expect-4.ensures in
    let mark = eqb-true _ _ c.in_ok-expect.ensures in
    let version = eqb-true _ _ c.in_ok-expect-2.ensures in
    let role = role_said _ _ c.in_ok-role.ensures in
    let zero = eqb-true _ _ c.in_ok-expect-3.ensures in
    rw (p.1, p.2) (λ size. wrong_padding size _ c.args.fields.now mark version role zero c.in_ok-tli.ensures.0 (eqb-false _ _ said.0)
    said.1)
