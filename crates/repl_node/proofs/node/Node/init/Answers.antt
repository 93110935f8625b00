-- The slots go, and then the log is made.
use Rattle.std.proofs.Common.{ap}
use Rattle.repl_disk.specs.Runs.{told_so}
use Rattle.repl_slots.specs.Slot.{SlotList}
use Rattle.repl_node.specs.Making.{IsCleared}
use Rattle.repl_node.proofs.Begun.{begun_moments, cleared_begun, is_some_as, known_on, some_folder, without_slots}
use Rattle.repl_node.proofs.node.Node.init.Goals as goal

pub returns-in-Err-clause-moments : goal.returns-in-Err-clause-moments
returns-in-Err-clause-moments g c =
    let state = g.D.Disk.state in
    cleared_begun (state c.args.disk) (state c.clear.new.disk) c.args.role c.args.ident c.in-Err.ensures.moments

pub returns-in-Ok-init-clause-holds : goal.returns-in-Ok-init-clause-holds
returns-in-Ok-init-clause-holds g c known told agree all =
    let old = g.D.Disk.state c.args.disk in
    let mid = g.D.Disk.state c.clear.new.disk in
    let new = g.D.Disk.state c.in-Ok-init.wal.disk in
    let folder = some_folder old.files told in
    let slots = (told_so old.files folder.0 (λ f. IsCleared old mid f) folder.1 c.in-Ok.ensures.cleared).slots in
    record {
      log = c.in-Ok-init.ensures.holds known (is_some_as mid.files slots.after slots.told)
          (λ image left. known_on old.may_leave image 1 known all (slots.images image left));
      slots = ap (λ (l : SlotList). l.slots) c.new.ensures;
      sound = λ is. ap (λ (l : SlotList). l.broken) c.new.ensures;
      stored = λ tells is. without_slots old mid new folder.0 slots agree c.in-Ok-init.ensures.apart;
    }

pub returns-in-Ok-init-clause-moments : goal.returns-in-Ok-init-clause-moments
returns-in-Ok-init-clause-moments g c =
    let state = g.D.Disk.state in
    begun_moments (state c.args.disk) (state c.clear.new.disk) (state c.in-Ok-init.wal.disk) c.args.role c.args.ident c.in-Ok.ensures.cleared
    c.in-Ok.ensures.moments c.in-Ok-init.ensures.moments c.in-Ok-init.ensures.apart

pub returns-in-Err-init-clause-moments : goal.returns-in-Err-init-clause-moments
returns-in-Err-init-clause-moments g c =
    let state = g.D.Disk.state in
    begun_moments (state c.args.disk) (state c.clear.new.disk) (state c.in-Err-init.refused.1) c.args.role c.args.ident c.in-Ok.ensures.cleared
    c.in-Ok.ensures.moments c.in-Err-init.ensures.moments c.in-Err-init.ensures.apart
