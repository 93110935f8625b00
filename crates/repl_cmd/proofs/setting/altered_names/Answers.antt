-- What `altered_names` needs and ensures.
use Rattle.std.proofs.Common.{◌≡◌, ◌∙◌, ap, rules}
use Rattle.repl_cmd.specs.Token.{Lexeme}
use Rattle.repl_cmd.specs.declared.token.Kind.TheVariants as kind
use Rattle.repl_cmd.proofs.OtherFaults.{names_stop}
use Rattle.repl_cmd.proofs.setting.altered_names.Goals as goal

pub returns-in-Err-clause-err : goal.returns-in-Err-clause-err
returns-in-Err-clause-err c =
    let same = c.deref.ensures.value ∙ ap (λ (t : Lexeme). t.text) c.token.view_is in
    let text : c.args.token.now.kind ≡ kind.Text = search rules in
    names_stop c.args.token.now c.deref.result.now c.parse_names.result c.in-Err.fault c.names_fault.result same text c.in-Err.is
    c.in-Err.ensures.refused c.parse_names.ensures.only c.names_fault.ensures
