-- The names of the log's files have their forms, and other names have none of them.
use Rattle.std.proofs.Common.{codes, arith}
use Rattle.repl_lsn.specs.Segment.{file_name}
use Rattle.repl_lsn.proofs.FileNames.{name_has_form, begins_with_digit, no_temporary, other_first}
use Rattle.repl_lsn.proofs.segment_laws.no_other_file.Goals as goal

pub returns : goal.returns
returns c = record {
  form = name_has_form;
  digit = λ size file h is. begins_with_digit (file_name size file) (name_has_form size file h is);
  temporary = no_temporary;
  control = λ size file h is. other_first size file (codes "control") h is (omega arith);
  slots = λ size file h is. other_first size file (codes "slots") h is (omega arith);
}
