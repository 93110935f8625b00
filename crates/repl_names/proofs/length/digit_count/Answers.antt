-- What `digit_count` needs and ensures.
use Rattle.std.proofs.Common.{arith}
use Rattle.repl_names.proofs.GrammarLengths.{decimal_length}
use Rattle.repl_names.proofs.length.digit_count.Goals as goal

pub returns-clause-exact : goal.returns-clause-exact
returns-clause-exact c =
    omega (
      arith,
      c.from.ensures,
      decimal_length c.args.number c.ilog10.result c.ilog10.ensures.power_le c.ilog10.ensures.next_power_gt
          (omega arith),
    )
