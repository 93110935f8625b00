-- One form more without the name.
use Rattle.std.proofs.Common.{◌≢◌, rules, arith}
use Rattle.repl_args.specs.Forms.{PlainForm, form_name, plain_form}
use Rattle.repl_args.proofs.Names.{none_more, none_in_all}
use Rattle.repl_args.proofs.line.find_form.Goals as goal

pub loop-form-preserved : goal.loop-form-preserved
loop-form-preserved g c =
    let differs : c.form-item.result.name.now ≢ c.args.name.now = search rules in
    none_more plain_form (λ (f : PlainForm g.row.K.Denot g.row.C.Denot). form_name f ≢ c.args.name.now) c.args.forms.now c.loop-form.form-index
    c.form-item.result (omega arith) c.form-item.is differs c.loop-form.invariant

pub returns-clause-none : goal.returns-clause-none
returns-clause-none g c =
    none_in_all plain_form (λ (f : PlainForm g.row.K.Denot g.row.C.Denot). form_name f ≢ c.args.name.now) c.args.forms.now c.loop-form.form-index
    (omega arith) c.loop-form.invariant
