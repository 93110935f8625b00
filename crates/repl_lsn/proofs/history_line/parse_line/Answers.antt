-- Number, switch point and reason are a part; without one of the first two the line is wrong.
use Rattle.std.proofs.Common.{refl, inr}
use Rattle.repl_lsn.proofs.Said.{no_part, single_past, single_rest}
use Rattle.repl_lsn.proofs.history_line.parse_line.Goals as goal

pub returns-in_default-switch_of-clause-refused : goal.returns-in_default-switch_of-clause-refused
returns-in_default-switch_of-clause-refused c =
    let n = c.in-Some.number in
    inr (λ own before. (
      refl,
      (n.0, n.1.now, c.in-Some.ensures),
      no_part c.args.line.now n.0 n.1.now c.in-Some.ensures c.in_default-switch_of.ensures,
    ))

pub reason_of-requires : goal.reason_of-requires
reason_of-requires c =
    let n = c.in-Some.number in
    let s = c.in-Some-switch_of.found in
    single_rest n.1.now s.0 s.1.now c.in-Some-switch_of.ensures (single_past c.args.line.now n.0 n.1.now c.in-Some.ensures c.requires)
