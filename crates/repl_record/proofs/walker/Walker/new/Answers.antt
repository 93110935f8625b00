-- A new walker stands after nothing.
use Rattle.std.proofs.Common.{refl, arith}
use Rattle.repl_record.proofs.WalkerAtEnds.{begun}
use Rattle.repl_record.proofs.walker.Walker.new.Goals as goal

pub returns-clause-stands : goal.returns-clause-stands
returns-clause-stands c timeline = begun _ timeline c.args.prev refl refl refl refl c.requires refl (omega arith)
