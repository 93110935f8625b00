-- The format codes have two bytes each.
use Rattle.std.proofs.Common.{◌<◌, ◌^◌, subst, arith, rules}
use Rattle.std.specs.List.{AllByRecursion}
use Rattle.repl_message.proofs.Appending.{fits_below}
use Rattle.repl_message.proofs.encode_server.put_formats.Goals as goal

pub returns-clause-fits : goal.returns-clause-fits
returns-clause-fits c =
    let entries = c.as_slice-entries.result.now in (
      c.as_slice-entries.ensures.few,
      subst (AllByRecursion (λ f. f < 2 ^ 16)) c.as_slice-entries.ensures.value
          (fits_below (2 ^ 16) entries (λ i. first_of (omega arith, search rules, grind arith))),
    )
