-- The lines so far say the parts so far, and the first of them that lies outside is known.
use Rattle.std.proofs.Common.{length, MatchOption}
use Rattle.repl_lsn.specs.Between.{AreBetween, LiesOutside}
use Rattle.repl_lsn.proofs.Reading.{Reads}
use Rattle.repl_lsn.proofs.history_lines.parse_parents.Given as goal

abbrev pub invariant-loop-rest : goal.invariant-loop-rest
invariant-loop-rest l = record {
  reads : Reads l.own l.text l.rest l.place l.parents.items;
  outside : MatchOption l.outside (AreBetween l.least l.most l.parents.items) (λ at. LiesOutside l.text l.least l.most at);
}

abbrev pub decreases-loop-rest : goal.decreases-loop-rest
decreases-loop-rest l = length l.rest
