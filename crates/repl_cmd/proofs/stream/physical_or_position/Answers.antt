-- What `physical_or_position` needs and ensures.
use Rattle.std.proofs.lemmas.Result.{IfErr-weaker}
use Rattle.repl_cmd.specs.declared.state.State.TheVariants as state
use Rattle.repl_cmd.specs.Walk.{IsStop}
use Rattle.repl_cmd.specs.Wanted.{IsLogicalOrNone}
use Rattle.repl_cmd.proofs.PositionFaults.{failed, named_stop}
use Rattle.repl_cmd.proofs.stream.physical_or_position.Goals as goal

pub returns-clause-err : goal.returns-clause-err
returns-clause-err c =
    IfErr-weaker c.position_or_logical.result (IsLogicalOrNone c.args.token.now) (IsStop (state.StreamNamed c.args.name) c.args.token.now)
    (λ f none. named_stop c.args.name c.args.token.now f c.requires
    (failed c.is_keyword.result c.is_keyword.ensures c.if-is_keyword.false) none) c.position_or_logical.ensures.err
