-- What is printed is the name.
use Rattle.std.proofs.Common.{arith}
use Rattle.std.proofs.lemmas.Grind.{common_steps}
use Rattle.repl_lsn.proofs.Numbers.{padded_is_eight}
use Rattle.repl_lsn.proofs.file_names.history_name.Goals as goal

pub returns : goal.returns
returns c = grind (arith, common_steps, padded_is_eight)
