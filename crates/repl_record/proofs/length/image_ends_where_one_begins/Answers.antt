-- An image ends at a multiple of 8, and not within a header.
use Rattle.repl_record.proofs.ImageLength.{end_can_begin, end_is_rounded}
use Rattle.repl_record.proofs.length.image_ends_where_one_begins.Goals as goal

pub returns-clause-rounded : goal.returns-clause-rounded
returns-clause-rounded c = end_is_rounded

pub returns-clause-can_begin : goal.returns-clause-can_begin
returns-clause-can_begin c = end_can_begin
