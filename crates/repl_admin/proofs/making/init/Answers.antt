-- A node is made, or none is.
use Rattle.std.proofs.Common.{ℕ, ap, sym, subst}
use Rattle.repl_disk.specs.State.{DiskState}
use Rattle.repl_page.specs.declared.ident.Ident.{Ident}
use Rattle.repl_admin.proofs.Made.{made_initiated, new_node, unmade_initiated}
use Rattle.repl_admin.specs.Tending.{Initiated}
use Rattle.repl_admin.specs.declared.tended.Tended.{Tended}
use Rattle.repl_admin.proofs.making.init.Goals as goal

pub returns-in-Ok-clause-initiated : goal.returns-in-Ok-clause-initiated
returns-in-Ok-clause-initiated g c =
    let state = g.D.Disk.state in
    let sink = g.K.Sink.sink in
    let role = c.args.role in
    let old = state c.args.disk in
    let node = c.in-Ok.node in
    let new = state node.wal.disk in
    let ident : ℕ → Ident = λ size. record { sysid = c.args.sysid; magic = c.args.magic; size = size } in
    let size = c.version_1_size.result in
    let ensures = c.in-Ok.ensures in
    let w = sink c.args.out.now in
    let w' = sink c.write_all.new.out in
    let made = made_initiated role (ident size) old new c.write_all.result w w' (new_node role (ident size) old new node ensures.images ensures.holds)
    ensures.moments ensures.caused.ok.0 c.write_all.ensures in
    let Sized : ℕ → Type 0 = λ n. Initiated role (ident n) c.sent_end.result old (state c.into_disk.result) w w' in
    let Over : DiskState → Type 0 = λ d. Initiated role (ident size) c.sent_end.result old d w w' in
    let Ended : Tended → Type 0 = λ end. Initiated role (ident size) end old new w w' in
    subst Sized c.version_1_size.ensures.value (subst Over (sym (ap state c.into_disk.ensures)) (subst Ended (sym c.sent_end.ensures) made))

pub returns-in-Err-clause-initiated : goal.returns-in-Err-clause-initiated
returns-in-Err-clause-initiated g c =
    let state = g.D.Disk.state in
    let w = g.K.Sink.sink c.args.out.now in
    let ident : ℕ → Ident = λ size. record { sysid = c.args.sysid; magic = c.args.magic; size = size } in
    let ensures = c.in-Err.ensures in
    let unmade = unmade_initiated c.args.role (ident c.version_1_size.result) (state c.args.disk) (state c.in-Err.disk) c.in-Err.fault
    c.end_of_node.result w ensures.refused c.end_of_node.ensures ensures.moments ensures.caused ensures.caused.others in
    let Sized : ℕ → Type 0 = λ n. Initiated c.args.role (ident n) c.end_of_node.result (state c.args.disk) (state c.in-Err.disk) w w in
    subst Sized c.version_1_size.ensures.value unmade
