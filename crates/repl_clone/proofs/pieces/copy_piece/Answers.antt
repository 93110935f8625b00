-- The piece is read, and then written.
use Rattle.std.proofs.Common.{rules, ◌≡◌, ◌≢◌, ℕ, List, Result, Ok, Err, sym, subst}
use Rattle.repl_clone.specs.Causes.{IsOfDisk}
use Rattle.repl_clone.specs.declared.fault.CopyFault.{CopyFault}
use Rattle.repl_clone.specs.declared.fault.CopyFault.TheVariants as fault
use Rattle.repl_clone.proofs.Causing.{apart, disk_still, not_of_disk}
use Rattle.repl_clone.proofs.Changing.{changes_none, wrote}
use Rattle.repl_clone.proofs.pieces.copy_piece.Goals as goal

pub returns-in_err-read_source-clause-changes : goal.returns-in_err-read_source-clause-changes
returns-in_err-read_source-clause-changes g c =
    changes_none (λ (other : List ℕ). other ≡ c.args.name.now) (g.D.Disk.state c.args.disk.now) (g.met.D.Disk.only_now c.args.disk.now)

pub returns-in_err-read_source-clause-of_disk : goal.returns-in_err-read_source-clause-of_disk
returns-in_err-read_source-clause-of_disk g c =
    let disk = g.D.Disk.state c.args.disk.now in
    let e : CopyFault = c.in_err-read_source.field-0.0 in
    let is : c.from_residual.result ≡ Err e = search rules in
    let P : Result (Unit {0}) CopyFault → Type 0 = λ r. IsOfDisk r disk disk in
    subst P (sym is) (disk_still (Err e) disk (apart e fault.DiskFault (not_of_disk e c.in_err-read_source.ensures.answers)))

pub returns-in-Ok-clause-changes : goal.returns-in-Ok-clause-changes
returns-in-Ok-clause-changes g c =
    let old = c.args.disk.now in
    wrote c.write_at.result c.args.name.now c.args.place c.read_source.new.room (g.D.Disk.state old) (g.D.Disk.state c.write_at.new.self)
    (g.met.D.Disk.only_now old) c.write_at.ensures.ends.time c.write_at.ensures.written c.write_at.ensures.crash

pub returns-in-Err-clause-changes : goal.returns-in-Err-clause-changes
returns-in-Err-clause-changes g c =
    let old = c.args.disk.now in
    wrote c.write_at.result c.args.name.now c.args.place c.read_source.new.room (g.D.Disk.state old) (g.D.Disk.state c.write_at.new.self)
    (g.met.D.Disk.only_now old) c.write_at.ensures.ends.time c.write_at.ensures.written c.write_at.ensures.crash
