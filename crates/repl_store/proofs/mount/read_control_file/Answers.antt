-- The control is read from its bytes.
use Rattle.std.proofs.Common.{◌≡◌, ℕ, Err, IfErr, Result, rules, sym, subst}
use Rattle.repl_disk.specs.Folder.{IfTold}
use Rattle.repl_store.specs.Refusal.{HasControl, IsRefusal}
use Rattle.repl_store.specs.declared.fault.MountFault.{MountFault}
use Rattle.repl_store.proofs.Mounting.{told_map}
use Rattle.repl_store.proofs.mount.read_control_file.Goals as goal

pub returns-in_err-bytes-clause-refused : goal.returns-in_err-bytes-clause-refused
returns-in_err-bytes-clause-refused g c =
    let files = (g.D.Disk.state c.args.disk.now).files in
    let e = c.in_err-bytes.field-0.0 in
    let is : c.from_residual.result ≡ Err e = search rules in
    let P : Result _ MountFault → Type 0 = λ r. IfErr r (λ e. IfTold files (λ folder. IsRefusal c.args.size folder e)) in
    subst P (sym is) (told_map files (λ folder. (size : ℕ) → IsRefusal size folder e) (λ folder. IsRefusal c.args.size folder e)
    (λ folder h. h c.args.size) c.in_err-bytes.ensures.refused)

pub returns-in-Ok-clause-read : goal.returns-in-Ok-clause-read
returns-in-Ok-clause-read g c =
    let files = (g.D.Disk.state c.args.disk.now).files in
    told_map files _ (λ folder. HasControl c.args.size folder c.in-Ok.control) (λ folder is. (c.in_ok-bytes.bytes, is, c.in-Ok.ensures.read))
    c.in_ok-bytes.ensures.read

pub returns-in-Err-clause-refused : goal.returns-in-Err-clause-refused
returns-in-Err-clause-refused g c =
    let files = (g.D.Disk.state c.args.disk.now).files in
    told_map files _ (λ folder. IsRefusal c.args.size folder (MountFault.BadControl c.in-Err.fault.place)) (λ folder is. (c.in_ok-bytes.bytes, is, c.in-Err.ensures.refused))
    c.in_ok-bytes.ensures.read
