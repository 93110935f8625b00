-- The law `one_list`.
use Rattle.repl_names.proofs.GrammarLists.{reads_one_list}
use Rattle.repl_names.proofs.laws.one_list.Goals as goal

pub returns : goal.returns
returns c = reads_one_list
