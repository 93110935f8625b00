-- Four digits at most have a value within the limit.
use Rattle.std.proofs.Common.{ℕ}
use Rattle.repl_top.proofs.Digits.{magic_below}
use Rattle.repl_top.proofs.kinds.read_magic.Goals as goal

pub returns-in-None-clause-none : goal.returns-in-None-clause-none
returns-in-None-clause-none c = λ n is. c.in-None.ensures.none n is.0 (magic_below c.args.word.now n is)
