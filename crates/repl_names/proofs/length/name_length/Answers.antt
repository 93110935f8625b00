-- What `name_length` needs and ensures.
use Rattle.std.proofs.Common.{◌≡◌, false, bytes_eq, codes, arith}
use Rattle.repl_names.proofs.GrammarLengths.{name_length_quoted}
use Rattle.repl_names.proofs.length.name_length.Goals as goal

pub returns : goal.returns
returns c =
    let other : bytes_eq c.args.name.now (codes "*") ≡ false = cc in
    omega (
      arith,
      c.saturating_add-2.ensures,
      c.saturating_add.ensures,
      c.quote_count-quotes.ensures,
      name_length_quoted c.args.name.now other,
    )
