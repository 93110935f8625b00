-- What `new` needs and ensures.
use Rattle.std.proofs.Common.{subst}
use Rattle.repl_text.specs.Text.{IsText}
use Rattle.repl_cmd.proofs.SmallLetters.{lowered_parameter}
use Rattle.repl_cmd.proofs.name.ParameterName.new.Goals as goal

pub invariant_of-result : goal.invariant_of-result
invariant_of-result c =
    let is_text = subst IsText c.deref.ensures.value (c.is_text.ensures.0 c.if-is_text.true) in
    lowered_parameter c.args.bytes.items c.lowered.result.items c.lowered.ensures is_text
