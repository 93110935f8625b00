-- A read of nothing, and then of the pieces.
use Rattle.std.proofs.Common.{◌≡◌, Result, Err, sym, subst}
use Rattle.repl_store.specs.Backing.{Before, Comes}
use Rattle.repl_store.specs.Head.{Head}
use Rattle.repl_store.specs.declared.fault.StoreFault.{StoreFault}
use Rattle.repl_check.specs.declared.log_check.LogCheck.{LogCheck}
use Rattle.repl_check.proofs.Pieces.{SoFar, comes_after, err_comes, residual_is}
use Rattle.repl_check.proofs.reading.read_log.Goals as goal

pub returns-in_err-read_into-clause-comes : goal.returns-in_err-read_into-clause-comes
returns-in_err-read_into-clause-comes g c s backs =
    let old = g.D.Disk.state c.args.store.now.disk in
    let new = g.D.Disk.state c.read_into.new.self.disk in
    let e = c.in_err-read_into.field-0.0 in
    let is : c.from_residual.result ≡ Err e = residual_is LogCheck c.from_residual.result e c.from_residual.ensures.1 in
    let P : Result LogCheck StoreFault → Type 0 = λ r. Comes r old new c.read_into.new.self.head (Before s) s (λ t. t ≡ s) in
    subst P (sym is) (err_comes (Unit {0}) LogCheck e old new c.read_into.new.self.head s (c.in_err-read_into.ensures.comes s backs))

pub returns-clause-comes : goal.returns-clause-comes
returns-clause-comes g c s backs =
    let old = g.D.Disk.state c.args.store.now.disk in
    let mid = g.D.Disk.state c.read_into.new.self.disk in
    let new = g.D.Disk.state c.read_pieces.new.store.disk in
    let head = c.read_pieces.new.store.head in
    let first = c.in_ok-read_into.ensures.comes s backs in
    let same = c.read_pieces.ensures.head in
    let far = subst (λ (h : Head). SoFar old mid h s) (sym same) (record { moments = first.moments; backs = first.ok }) in
    comes_after LogCheck c.read_pieces.result old mid new head s far c.in_ok-read_into.ensures.caused.ok.0 (c.read_pieces.ensures.comes s
    first.ok)
