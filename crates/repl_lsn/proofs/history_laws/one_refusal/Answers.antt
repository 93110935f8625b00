-- A text that says a history is not refused, and one line is the first that lies outside.
use Rattle.repl_lsn.proofs.Outside.{one_outside, none_outside}
use Rattle.repl_lsn.proofs.Reading.{read_only}
use Rattle.repl_lsn.proofs.history_laws.one_refusal.Goals as goal

pub returns : goal.returns
returns c = record {
  read = λ own text path fault same says wrong. read_only own text fault path same says wrong;
  outside = one_outside;
  within = none_outside;
}
