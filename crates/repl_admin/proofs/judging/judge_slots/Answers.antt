-- Slots that were read are stored.
use Rattle.repl_admin.proofs.Ending.{slots_right}
use Rattle.repl_admin.proofs.judging.judge_slots.Goals as goal

pub returns-in-Ok-clause-right : goal.returns-in-Ok-clause-right
returns-in-Ok-clause-right g c = slots_right (g.D.Disk.state c.args.disk).files c.in-Ok._slots.slots c.in-Ok.ensures.slots.1
