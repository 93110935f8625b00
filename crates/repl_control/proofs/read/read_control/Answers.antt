-- What is read is spelled so, and of bytes that spell nothing the fault is told, since they have one.
use Rattle.std.proofs.Common.{Ok, Err, ap, ◌∙◌, arith}
use Rattle.std.proofs.lemmas.Result.{err_from_is_err_and}
use Rattle.repl_control.proofs.Spelled.{are_bytes, control_one, fault_one, field_fault, spelled, spelled-length, spelled_right, told}
use Rattle.repl_control.proofs.read.read_control.Goals as goal

pub returns-then-bytes-ne-CONTROL_SIZE-clause-only : goal.returns-then-bytes-ne-CONTROL_SIZE-clause-only
returns-then-bytes-ne-CONTROL_SIZE-clause-only c = λ control spells. absurd (c.if-bytes-ne-CONTROL_SIZE.true (spelled-length spells))

pub returns-in_err-control-clause-only : goal.returns-in_err-control-clause-only
returns-in_err-control-clause-only c =
    let size = c.args.size in
    let bytes = c.args.bytes.now in
    let wrong = field_fault size bytes c.read.result _ (omega arith) c.read.ensures (c.in_err-control.ensures.refused size) in
    λ control spells. absurd (spelled_right size bytes control _ spells wrong)

pub returns-in_err-control-clause-exact : goal.returns-in_err-control-clause-exact
returns-in_err-control-clause-exact c =
    let size = c.args.size in
    let bytes = c.args.bytes.now in
    let wrong = field_fault size bytes c.read.result _ (omega arith) c.read.ensures (c.in_err-control.ensures.refused size) in
    let p = err_from_is_err_and c.from_residual.result c.from_residual.ensures.1 in
    λ place is. rw (p.1, p.2) (ap Err (told _ place (fault_one size bytes _ place wrong is)))

pub returns-in_err-judge-clause-only : goal.returns-in_err-judge-clause-only
returns-in_err-judge-clause-only c =
    let size = c.args.size in
    let bytes = c.args.bytes.now in
    let same = c.in_ok-control.ensures.read ∙ c.read.ensures in
    let wrong = field_fault size bytes _ _ (omega arith) same c.in_err-judge.ensures.refused in
    λ control spells. absurd (spelled_right size bytes control _ spells wrong)

pub returns-in_err-judge-clause-exact : goal.returns-in_err-judge-clause-exact
returns-in_err-judge-clause-exact c =
    let size = c.args.size in
    let bytes = c.args.bytes.now in
    let same = c.in_ok-control.ensures.read ∙ c.read.ensures in
    let wrong = field_fault size bytes _ _ (omega arith) same c.in_err-judge.ensures.refused in
    let p = err_from_is_err_and c.from_residual-in_err-judge.result c.from_residual-in_err-judge.ensures.1 in
    λ place is. rw (p.1, p.2) (ap Err (told _ place (fault_one size bytes _ place wrong is)))

pub returns-clause-read : goal.returns-clause-read
returns-clause-read c =
    let bytes = c.args.bytes.now in
    let fit = are_bytes bytes (λ i. omega (arith, c.type_inv.bytes i)) in
    let same = c.in_ok-control.ensures.read ∙ c.read.ensures in
    spelled c.args.size bytes c.in_ok-control.control fit (omega arith) same c.in_ok-control.ensures.timeline c.in_ok-judge.ensures.right

pub returns-clause-only : goal.returns-clause-only
returns-clause-only c =
    let size = c.args.size in
    let bytes = c.args.bytes.now in
    let fit = are_bytes bytes (λ i. omega (arith, c.type_inv.bytes i)) in
    let same = c.in_ok-control.ensures.read ∙ c.read.ensures in
    let own = spelled size bytes c.in_ok-control.control fit (omega arith) same c.in_ok-control.ensures.timeline
    c.in_ok-judge.ensures.right in
    λ control spells. ap Ok (control_one size size bytes _ control own spells)
