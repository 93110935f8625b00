-- The law `one_counted`.
use Rattle.repl_names.proofs.CountedOrder.{one_counted}
use Rattle.repl_names.proofs.SomeCounted.{some_counted}
use Rattle.repl_names.proofs.laws.one_counted.Goals as goal

pub returns : goal.returns
returns c = record { one = one_counted; some = some_counted }
