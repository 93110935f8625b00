-- The walker went through the bytes, or met what is no record.
use Rattle.std.proofs.Common.{◌-◌, ◌∙◌, drop}
use Rattle.repl_check.specs.Machine.{check_floor, check_identity}
use Rattle.repl_check.proofs.Stages.{records_on, records_stop}
use Rattle.repl_check.proofs.log_check.LogCheck.through_records.Goals as goal

pub returns-in-Ok : goal.returns-in-Ok
returns-in-Ok c timeline rest log is on_page on =
    let floor = check_floor c.args.self.now in
    records_on (check_identity c.args.self.now) timeline rest floor c.args.start log c.args.bytes.now c.walk_on.new.walker on_page is.first
    (c.in-Ok.ensures.ident ∙ is.of_log) (c.in-Ok.ensures.goes_on timeline is.prev (drop (c.args.start - floor) log) is.before is.walked on)

pub returns-in-Err : goal.returns-in-Err
returns-in-Err c timeline rest log is on_page on =
    let floor = check_floor c.args.self.now in
    let fault = c.in-Err.fault in
    records_stop (check_identity c.args.self.now) timeline rest floor c.args.start fault.at c.last_end.result c.last_start.result fault.why log
    c.args.bytes.now c.walk_on.new.walker on_page is.first (c.in-Err.ensures.ident ∙ is.of_log) c.last_end.ensures c.last_start.ensures
    (c.in-Err.ensures.refuses timeline is.prev (drop (c.args.start - floor) log) is.before is.walked on)
