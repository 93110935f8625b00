-- A position has one canonical text.
use Rattle.repl_lsn.proofs.Canonical.{one_canonical}
use Rattle.repl_lsn.proofs.laws.one_canonical_text.Goals as goal

pub returns : goal.returns
returns c = one_canonical
