-- 16 MiB are 2 ^ 24 bytes.
use Rattle.std.proofs.Common.{refl, arith}
use Rattle.repl_lsn.specs.Segment.{IsSegSize}
use Rattle.repl_control.proofs.control.version_1_size.Goals as goal

sixteen : IsSegSize 16777216
sixteen = record {
  exponent = 24;
  power = refl;
  least = omega arith;
  most = omega arith;
}

pub invariant_of-result : goal.invariant_of-result
invariant_of-result c = sixteen

pub returns-clause-size : goal.returns-clause-size
returns-clause-size c = sixteen
