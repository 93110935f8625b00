-- A record ends in a cut log where one does in the whole, up to the cut.
use Rattle.repl_record.proofs.LogEnds.{kept_by_cut, only_by_cut}
use Rattle.repl_record.proofs.laws.cut_keeps_ends.Goals as goal

pub returns-clause-kept : goal.returns-clause-kept
returns-clause-kept c = kept_by_cut

pub returns-clause-only : goal.returns-clause-only
returns-clause-only c = only_by_cut
