-- Histories are equal where their numbers and parts are.
use Rattle.std.proofs.Common.{◌≡◌, rules}
use Rattle.repl_lsn.specs.Equality.{path_eq}
use Rattle.repl_lsn.proofs.Equals.{path_eq-Decides}
use Rattle.repl_lsn.proofs.equality.HistoryPartialEq.eq.Goals as goal

pub returns-then-eq-clause-same : goal.returns-then-eq-clause-same
returns-then-eq-clause-same c =
    let test : c.eq-then-eq.result ≡ path_eq c.args.self.now c.args.other.now = search rules in
    path_eq-Decides c.args.self.now c.args.other.now c.eq-then-eq.result test
