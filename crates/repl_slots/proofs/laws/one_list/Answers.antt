-- Two lists whose files are the same are the same.
use Rattle.repl_slots.proofs.Ends.{spelled_one}
use Rattle.repl_slots.proofs.laws.one_list.Goals as goal

pub returns : goal.returns
returns c = λ a b file first second. spelled_one a b file first second
