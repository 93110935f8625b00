-- One option more without the name.
use Rattle.std.proofs.Common.{◌≢◌, rules, arith}
use Rattle.repl_args.specs.Forms.{PlainOption, option_name, plain_option}
use Rattle.repl_args.proofs.Names.{none_more, none_in_all}
use Rattle.repl_args.proofs.options.find_option.Goals as goal

pub loop-option-preserved : goal.loop-option-preserved
loop-option-preserved g c =
    let differs : c.option-item.result.name.now ≢ c.args.name.now = search rules in
    none_more plain_option (λ (o : PlainOption g.row.K.Denot). option_name o ≢ c.args.name.now) c.args.options.now c.loop-option.option-index
    c.option-item.result (omega arith) c.option-item.is differs c.loop-option.invariant

pub returns-clause-none : goal.returns-clause-none
returns-clause-none g c =
    none_in_all plain_option (λ (o : PlainOption g.row.K.Denot). option_name o ≢ c.args.name.now) c.args.options.now c.loop-option.option-index
    (omega arith) c.loop-option.invariant
