-- What is wrong remains so.
use Rattle.std.proofs.Common.{subst}
use Rattle.repl_check.specs.Machine.{IsAtStage, check_floor, check_identity}
use Rattle.repl_check.proofs.Stages.{stays_wrong}
use Rattle.repl_check.proofs.log_check.LogCheck.through.Goals as goal

pub returns-in-InRest : goal.returns-in-InRest
returns-in-InRest c timeline rest log is on_page past on =
    c.through_rest.ensures timeline rest log (subst (IsAtStage (check_identity c.args.self.now) timeline rest (check_floor c.args.self.now) log)
    c.in-InRest.is is) on_page past on

pub returns-in-BadRest : goal.returns-in-BadRest
returns-in-BadRest c timeline rest log is on_page past on =
    stays_wrong (check_identity c.args.self.now) timeline rest (check_floor c.args.self.now) log c.args.bytes.now c.args.stage on_page
    c.in-BadRest.is is
