-- The longest name of a setting is a text.
use Rattle.std.proofs.Common.{refl}
use Rattle.std.specs.Prelude.{codes}
use Rattle.repl_text.proofs.Literals.{text_from_test}
use Rattle.repl_identify.proofs.answer.greeting.Goals as goal

pub setting-requires-4-clause-name : goal.setting-requires-4-clause-name
setting-requires-4-clause-name c = text_from_test (codes "standard_conforming_strings") refl
