-- Lists of parts are equal where the parts are.
use Rattle.std.proofs.Common.{◌≡◌}
use Rattle.std.specs.Cmp.Lexicographic.{pointwise}
use Rattle.repl_lsn.specs.Equality.{part_eq}
use Rattle.repl_lsn.proofs.Equals.{parts_eq-Decides}
use Rattle.repl_lsn.proofs.equality.PartsPartialEq.eq.Goals as goal

pub returns-clause-same : goal.returns-clause-same
returns-clause-same c =
    let test : c.eq.result ≡ pointwise part_eq c.args.self.now c.args.other.now = cc in
    parts_eq-Decides c.args.self.now c.args.other.now c.eq.result test
