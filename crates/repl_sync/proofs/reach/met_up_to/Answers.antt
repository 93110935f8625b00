-- What `met_up_to` ensures of a list with names.
use Rattle.std.proofs.Common.{◌<◌, length, arith}
use Rattle.std.proofs.lemmas.Grind.{common_steps}
use Rattle.repl_names.proofs.GreatestMet.{met_where_released}
use Rattle.repl_sync.proofs.reach.met_up_to.Goals as goal

pub returns : goal.returns
returns c = λ end low.
    let some : 0 < length c.args.list.now.names = grind (arith, common_steps) in
    met_where_released c.args.list.now c.args.candidates.now c.args.mode end c.released.result some c.released.ensures
