-- A literal holds no zero byte, as the test computes.
use Rattle.repl_text.proofs.Literals.{text_from_test}
use Rattle.repl_text.proofs.text.Text.literal.Goals as goal

pub copied-requires : goal.copied-requires
copied-requires c = rw c.as_bytes.ensures.value (text_from_test c.args.text.now c.requires)

pub returns-clause-text : goal.returns-clause-text
returns-clause-text c = text_from_test c.args.text.now c.requires
