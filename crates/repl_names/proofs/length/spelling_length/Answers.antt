-- What `spelling_length` needs and ensures.
use Rattle.std.proofs.Common.{◌<◌, length, arith}
use Rattle.std.proofs.lemmas.Bool.Decides.{nat_tests}
use Rattle.repl_names.proofs.GrammarLengths.{spelling_length_is}
use Rattle.repl_names.proofs.length.spelling_length.Goals as goal

pub returns-clause-exact : goal.returns-clause-exact
returns-clause-exact c =
    let some : 0 < length c.args.names.now = grind (arith, nat_tests) in
    omega (
      arith,
      c.saturating_add.ensures,
      c.names_length.ensures.exact,
      c.keyword_length.ensures.exact,
      c.digit_count.ensures.exact,
      spelling_length_is c.args.method c.args.number c.args.names.now some,
    )
