-- Two flaws are one.
use Rattle.repl_check.proofs.Verdicts.{same_flaw}
use Rattle.repl_check.proofs.laws.one_flaw.Goals as goal

pub returns : goal.returns
returns c = same_flaw
