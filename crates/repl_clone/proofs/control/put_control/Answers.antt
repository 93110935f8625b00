-- Only the control changes.
use Rattle.std.proofs.Common.{refl, inl, inr}
use Rattle.repl_clone.specs.Copying.{OfControl}
use Rattle.repl_clone.proofs.Changing.{replaced_done, replaced_half}
use Rattle.repl_store.specs.Durable.{control_aside, control_name}
use Rattle.repl_clone.proofs.control.put_control.Goals as goal

pub returns-in-Ok-clause-changes : goal.returns-in-Ok-clause-changes
returns-in-Ok-clause-changes g c =
    replaced_done OfControl (g.D.Disk.state c.args.disk.now) (g.D.Disk.state c.replace_by.new.disk) control_name control_aside
    c.write_control.result (inl refl) (inr refl) (g.met.D.Disk.counts_now c.replace_by.new.disk) c.replace_by.ensures.any_moment
    c.in-Ok.ensures.files

pub returns-in-Err-clause-changes : goal.returns-in-Err-clause-changes
returns-in-Err-clause-changes g c =
    replaced_half OfControl (g.D.Disk.state c.args.disk.now) (g.D.Disk.state c.replace_by.new.disk) control_name control_aside
    c.write_control.result (inl refl) (inr refl) (g.met.D.Disk.counts_now c.replace_by.new.disk) c.replace_by.ensures.any_moment
    c.in-Err.ensures.half_done
