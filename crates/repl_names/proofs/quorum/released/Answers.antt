-- What `released` needs and ensures.
use Rattle.std.proofs.Common.{rules}
use Rattle.repl_names.proofs.Lists.{greatest_by_any}
use Rattle.repl_names.proofs.quorum.released.Goals as goal

pub returns-in-Any : goal.returns-in-Any
returns-in-Any c = search (rules, greatest_by_any)
