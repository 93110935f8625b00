-- The law `met_stays`.
use Rattle.repl_names.proofs.Staying.{stays_any, stays_where_none_lags}
use Rattle.repl_names.proofs.laws.met_stays.Goals as goal

pub returns : goal.returns
returns c = record { any = stays_any; first = stays_where_none_lags }
