-- A log that fits has no flaw.
use Rattle.repl_check.proofs.Verdicts.{fits_no_flaw}
use Rattle.repl_check.proofs.laws.fits_without_flaw.Goals as goal

pub returns : goal.returns
returns c = fits_no_flaw
