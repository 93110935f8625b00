-- One more parameter is counted, and at the end all are.
use Rattle.std.proofs.Common.{◌∷◌, [], arith, length-append}
use Rattle.std.specs.List.{flat_map}
use Rattle.repl_message.specs.Message.{pair}
use Rattle.repl_message.proofs.Counting.{counted_more, counted_all}
use Rattle.repl_message.proofs.lengths.of_pairs.Goals as goal

pub loop-entry-preserved : goal.loop-entry-preserved
loop-entry-preserved c =
    counted_more pair c.args.pairs.now c.loop-entry.entry-index c.entry-item.result 1 c.loop-entry.sum _ _ c.loop-entry-test.true
    c.entry-item.is c.loop-entry.invariant c.of_pair.ensures c.saturating_add-sum.ensures

pub returns : goal.returns
returns c =
    omega (
      arith,
      counted_all pair c.args.pairs.now c.loop-entry.entry-index 1 c.loop-entry.sum c.loop-entry-test.false
          c.loop-entry.invariant,
      length-append (flat_map pair c.args.pairs.now) (0 ∷ []),
    )
