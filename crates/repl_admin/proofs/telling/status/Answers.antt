-- The line of the node is written, or it is refused, and that is told.
use Rattle.std.proofs.Common.{◌≡◌, All, Some, sym, ap, subst, refl}
use Rattle.repl_control.specs.declared.control.TheConstants.{VERSION_1_SIZE}
use Rattle.repl_disk.specs.Folder.{Folder}
use Rattle.repl_disk.specs.Runs.{told_so}
use Rattle.repl_disk.specs.State.{DiskState}
use Rattle.repl_node.specs.Holding.{Remembers}
use Rattle.repl_node.specs.Making.{mounted_node}
use Rattle.repl_slots.specs.SlotFile.{IsMounted, entries_of}
use Rattle.repl_slots.specs.Stored.{Stores}
use Rattle.repl_store.specs.Durable.{Durable, StandsFor}
use Rattle.repl_admin.proofs.Past.{tail_fits}
use Rattle.repl_admin.proofs.Ending.{slots_right}
use Rattle.repl_admin.proofs.Refused.{refused_stated}
use Rattle.repl_admin.proofs.Stating.{mounted_stated}
use Rattle.repl_admin.specs.Files.{AreSettled, TailFits}
use Rattle.repl_admin.specs.Tending.{Stated}
use Rattle.repl_admin.proofs.telling.status.Goals as goal

pub returns-in-Ok-clause-stated : goal.returns-in-Ok-clause-stated
returns-in-Ok-clause-stated g c =
    let state = g.D.Disk.state in
    let sink = g.K.Sink.sink in
    let node = c.in-Ok.node in
    let slots = c.in-Ok.node.slots.slots in
    let old = state c.args.disk in
    let w = sink c.args.out.now in
    let w' = sink c.print_status-end.new.out in
    let ensures = c.in-Ok.ensures in
    let tail : (folder : Folder) (d : Durable) → old.files ≡ Some folder → StandsFor VERSION_1_SIZE folder d → AreSettled old folder → TailFits d =
    λ folder d told stands settled.
    let stored = told_so old.files folder (λ f. All IsMounted slots × Stores (entries_of slots) f) told ensures.slots in
    let holds = ensures.holds folder d told stands
    (λ image now. (settled.log d image stands now, settled.slots (entries_of slots) image stored.1 now)) in
    let n = mounted_node VERSION_1_SIZE d slots in
    let remembers : Remembers node n = record { log = holds.log.remembers; slots = holds.slots; sound = holds.sound } in
    tail_fits d (c.identify.ensures.right n remembers refl) in
    let stated = mounted_stated node.wal.log.head c.identify.result c.print_status-end.result old (state node.wal.disk) w w'
    ensures.mounted.1 (slots_right old.files slots ensures.slots) tail (c.identify.ensures.head ensures.mounted.0) ensures.reads
    ensures.caused.ok.0 c.print_status-end.ensures in
    let Over : DiskState → Type 0 = λ d. Stated c.print_status-end.result old d w w' in
    subst Over (sym (ap state c.into_disk.ensures)) stated

pub returns-in-Err-clause-stated : goal.returns-in-Err-clause-stated
returns-in-Err-clause-stated g c =
    let state = g.D.Disk.state in
    let w = g.K.Sink.sink c.args.out.now in
    let disk = c.in-Err.disk in
    let after = c.end_of_mount.result.1 in
    let ensures = c.in-Err.ensures in
    refused_stated c.in-Err.fault c.end_of_mount.result.0 (state c.args.disk) (state disk) (state after) w ensures.refused ensures.answers
    ensures.caused ensures.lost ensures.reads ensures.only (c.end_of_mount.result.1 ≡ disk)
    (λ same P p. subst (λ d. P (state d)) (sym same) p) c.end_of_mount.ensures.told (g.met.D.Disk.as_it_reads disk)
    (g.met.D.Disk.never_falls c.args.disk disk ensures.keeps)
