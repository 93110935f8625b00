-- A record's bytes are all in its image, and those of a longer one go on no shorter.
use Rattle.repl_record.proofs.ImageLength.{end_later, end_least}
use Rattle.repl_record.proofs.length.longer_ends_later.Goals as goal

pub returns-clause-least : goal.returns-clause-least
returns-clause-least c = end_least

pub returns-clause-later : goal.returns-clause-later
returns-clause-later c = end_later
