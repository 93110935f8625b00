-- What `close` needs and ensures.
use Rattle.std.proofs.Common.{◌∙◌, sym}
use Rattle.repl_cmd.proofs.OtherFaults.{ended_stop}
use Rattle.repl_cmd.proofs.state.State.close.Goals as goal

pub returns-then-is_ended-clause-err : goal.returns-then-is_ended-clause-err
returns-then-is_ended-clause-err c = ended_stop c.args.self c.args.token.now c.syntax.result
    (sym c.is_ended.ensures ∙ c.if-is_ended.true) c.syntax.ensures
