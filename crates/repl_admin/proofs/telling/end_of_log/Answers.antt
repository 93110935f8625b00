-- The segment is named by the path of the store, or that is refused.
use Rattle.std.proofs.Common.{ap, sym, subst}
use Rattle.repl_disk.specs.State.{DiskState}
use Rattle.repl_admin.proofs.Named.{named_told, unnamed_told}
use Rattle.repl_admin.specs.Damages.{IsToldOfLog}
use Rattle.repl_admin.proofs.telling.end_of_log.Goals as goal

pub returns-in-Ok-clause-told : goal.returns-in-Ok-clause-told
returns-in-Ok-clause-told g c =
    let state = g.D.Disk.state in
    let store = c.in-Ok.store in
    let old = state c.args.disk in
    let end = c.log_damage-end.result in
    let told = named_told store store.head c.path.result.now c.args.at c.args.why end old (state store.disk) c.in-Ok.ensures.mounted.1
    c.path.ensures c.log_damage-end.ensures c.in-Ok.ensures.asks in
    let Over : DiskState → Type 0 = λ d. IsToldOfLog c.args.at c.args.why c.log_damage-end.result old d in
    subst Over (sym (ap state c.into_disk.ensures)) told

pub returns-in-Err-clause-told : goal.returns-in-Err-clause-told
returns-in-Err-clause-told g c =
    let state = g.D.Disk.state in
    unnamed_told c.in-Err.fault c.args.at c.args.why c.end_of_store.result (state c.args.disk) (state c.in-Err.disk) c.in-Err.ensures.refused
    c.in-Err.ensures.answers c.end_of_store.ensures c.in-Err.ensures.asks
