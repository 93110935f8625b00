-- What `position` needs and ensures.
use Rattle.std.proofs.lemmas.Result.{IfErr-weaker}
use Rattle.repl_cmd.specs.declared.state.State.TheVariants as state
use Rattle.repl_cmd.specs.Walk.{IsStop}
use Rattle.repl_cmd.specs.Wanted.{IsNoPosition}
use Rattle.repl_cmd.proofs.PositionFaults.{physical_stop}
use Rattle.repl_cmd.proofs.stream.position.Goals as goal

pub returns-clause-err : goal.returns-clause-err
returns-clause-err c =
    IfErr-weaker c.streamed.result (IsNoPosition c.args.token.now) (IsStop (state.StreamPhysical c.args.slot) c.args.token.now)
    (λ f none. physical_stop c.args.slot c.args.token.now f c.requires none) c.streamed.ensures.err
