-- Both names are the store's own.
use Rattle.repl_store.specs.Durable.{control_aside, control_name}
use Rattle.repl_store.proofs.Apart.{apart_replaced, control_aside_is_own, control_is_own}
use Rattle.repl_store.proofs.control.put_control.Goals as goal

pub returns-clause-apart : goal.returns-clause-apart
returns-clause-apart g c =
    apart_replaced c.replace_by.result (g.D.Disk.state c.args.disk.now) (g.D.Disk.state c.replace_by.new.disk) control_name control_aside _
    control_is_own control_aside_is_own (g.met.D.Disk.counts_now c.replace_by.new.disk) c.replace_by.ensures.any_moment
    c.replace_by.ensures.files c.replace_by.ensures.half_done
