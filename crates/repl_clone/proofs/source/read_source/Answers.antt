-- A read of the store, in this crate's words.
use Rattle.std.proofs.Common.{Err, subst, sym}
use Rattle.repl_clone.specs.Causes.{FromSource}
use Rattle.repl_clone.specs.declared.fault.CopyFault.{CopyFault}
use Rattle.repl_clone.proofs.Sourcing.{read_done, read_refused}
use Rattle.repl_clone.proofs.source.read_source.Goals as goal

pub returns-in-Ok-clause-source : goal.returns-in-Ok-clause-source
returns-in-Ok-clause-source g c =
    let on = c.in-Ok.ensures in
    read_done (g.E.Disk.state c.args.from.now.disk) (g.E.Disk.state c.read_into.new.self.disk) c.args.from.now.head c.read_into.new.self.head
    c.args.from.now.broken c.read_into.new.self.broken on.head on.apart on.caused on.breaks on.comes

pub returns-in-Err-clause-source : goal.returns-in-Err-clause-source
returns-in-Err-clause-source g c =
    let on = c.in-Err.ensures in
    let old = g.E.Disk.state c.args.from.now.disk in
    let new = g.E.Disk.state c.read_into.new.self.disk in
    let P : CopyFault → Type 0 = λ f. FromSource {A = Unit {0}} (Err f) old new c.args.from.now.head c.read_into.new.self.head
    c.args.from.now.broken c.read_into.new.self.broken in
    subst P (sym c.of_store.ensures.value) (read_refused old new c.args.from.now.head c.read_into.new.self.head
    c.args.from.now.broken c.read_into.new.self.broken on.head on.apart c.in-Err.fault on.caused on.breaks on.broken.0 on.comes)
