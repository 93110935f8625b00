-- The size's exponent.
use Rattle.std.proofs.Common.{◌^◌, sym, ap, ◌∙◌, arith}
use Rattle.repl_lsn.proofs.Sizes.{exponent_least, exponent_most}
use Rattle.repl_lsn.proofs.SizeTexts.{log2_is}
use Rattle.repl_lsn.proofs.segment.SegSize.log2.Goals as goal

pub returns-clause-value : goal.returns-clause-value
returns-clause-value c =
    let h = c.bytes.ensures.size in
    let e = log2_is c.args.self c.ilog2.result h (omega (arith, c.ilog2.ensures.power_le, c.bytes.ensures.value)) (omega (
      arith,
      c.ilog2.ensures.next_power_gt,
      c.bytes.ensures.value,
    )) in
    ap (λ k. 2 ^ k) e ∙ sym h.power

pub returns-clause-range : goal.returns-clause-range
returns-clause-range c =
    let h = c.bytes.ensures.size in
    let e = log2_is c.args.self c.ilog2.result h (omega (arith, c.ilog2.ensures.power_le, c.bytes.ensures.value)) (omega (
      arith,
      c.ilog2.ensures.next_power_gt,
      c.bytes.ensures.value,
    )) in
    (omega (arith, e, exponent_least c.args.self h), omega (arith, e, exponent_most c.args.self h))
