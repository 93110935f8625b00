-- What is wrong with the text that the file has is why the store is refused.
use Rattle.std.proofs.Common.{◌≡◌, ◌≢◌, Some, rules, sym, ap, ◌∙◌}
use Rattle.repl_disk.specs.Folder.{Folder}
use Rattle.repl_lsn.specs.Between.{IsFaultBetween}
use Rattle.repl_lsn.specs.Segment.{history_name}
use Rattle.repl_store.specs.Refusal.{HasControl, IsRefusal, bad_history}
use Rattle.repl_store.specs.declared.fault.MountFault.{MountFault}
use Rattle.repl_store.proofs.Mounting.{history_refuses, told_map}
use Rattle.repl_store.proofs.mount.read_own_history.Goals as goal

pub returns-clause-refused : goal.returns-clause-refused
returns-clause-refused g c =
    let files = (g.D.Disk.state c.args.disk.now).files in
    let control = c.args.control.now in
    let size = c.args.size in
    let text = c.in_ok-text.text.items in
    let fault = c.in-Err.fault in
    let later : control.tli ≢ 1 = search rules in
    let named : c.deref.result.now ≡ history_name control.tli = search rules in
    let wrong : IsFaultBetween control.tli text size control.whole fault = search rules in
    let Refuses : MountFault → Folder → Type 0 = λ e folder. HasControl size folder control → IsRefusal size folder e in
    rw c.bad_history.ensures.made (told_map files (λ folder. folder c.deref.result.now ≡ Some text) (Refuses (bad_history control.tli fault))
    (λ folder is has. history_refuses size folder control text fault has later (ap folder (sym named) ∙ is) wrong) c.in_ok-text.ensures.read)
