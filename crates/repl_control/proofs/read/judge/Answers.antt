-- Each position that is wrong is the first, since those before it are right.
use Rattle.std.proofs.lemmas.Bool.{iff_false}
use Rattle.std.proofs.lemmas.Result.{err_from_is_err_and, MatchResult-weaker}
use Rattle.repl_control.proofs.First.{wrong_flushed, wrong_whole, wrong_floor, wrong_prev}
use Rattle.repl_control.proofs.read.judge.Goals as goal

pub returns-in_err-expect-clause-refused : goal.returns-in_err-expect-clause-refused
returns-in_err-expect-clause-refused c =
    let p = err_from_is_err_and c.from_residual.result c.from_residual.ensures.1 in
    let said = c.in_err-expect.ensures in
    rw (p.1, p.2) (wrong_flushed _ _ c.args.control.now c.requires (iff_false c.has_flushed.ensures said.0) said.1)

pub returns-in_err-expect-2-clause-refused : goal.returns-in_err-expect-2-clause-refused
returns-in_err-expect-2-clause-refused c =
    let p = err_from_is_err_and c.from_residual-in_err-expect-2.result c.from_residual-in_err-expect-2.ensures.1 in
    let said = c.in_err-expect-2.ensures in
    rw (p.1, p.2) (wrong_whole _ _ c.args.control.now c.requires (c.has_flushed.ensures.0 c.in_ok-expect.ensures)
    (iff_false c.has_whole.ensures said.0) said.1)

pub returns-in_err-expect-3-clause-refused : goal.returns-in_err-expect-3-clause-refused
returns-in_err-expect-3-clause-refused c =
    let p = err_from_is_err_and c.from_residual-in_err-expect-3.result c.from_residual-in_err-expect-3.ensures.1 in
    let said = c.in_err-expect-3.ensures in
    rw (p.1, p.2) (wrong_floor _ _ c.args.control.now c.requires (c.has_flushed.ensures.0 c.in_ok-expect.ensures)
    (c.has_whole.ensures.0 c.in_ok-expect-2.ensures) (iff_false c.has_floor.ensures said.0) said.1)

pub returns-clause-refused : goal.returns-clause-refused
returns-clause-refused c =
    MatchResult-weaker c.expect-4.result c.expect-4.ensures (λ done right. tt)
    (λ fault said. wrong_prev _ _ c.args.control.now c.requires (c.has_flushed.ensures.0 c.in_ok-expect.ensures)
    (c.has_whole.ensures.0 c.in_ok-expect-2.ensures) (c.has_floor.ensures.0 c.in_ok-expect-3.ensures)
    (iff_false c.has_prev.ensures said.0) said.1)
