-- Where the record before starts is not judged yet.
use Rattle.std.proofs.Common.{arith}
use Rattle.repl_record.proofs.WalkerAtEnds.{stands_past}
use Rattle.repl_record.proofs.walker.Walker.past.Goals as goal

pub returns-clause-stands : goal.returns-clause-stands
returns-clause-stands c timeline from other log stands few = stands_past c.args.self timeline from c.args.prev other log (omega arith)
    stands few
