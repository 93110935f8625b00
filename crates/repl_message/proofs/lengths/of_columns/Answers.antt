-- One more value is counted, and at the end all are.
use Rattle.std.proofs.Common.{◌∷◌, [], arith, length-append}
use Rattle.std.specs.List.{flat_map}
use Rattle.repl_message.specs.Message.{column}
use Rattle.repl_message.proofs.Counting.{counted_more, counted_all}
use Rattle.repl_message.proofs.lengths.of_columns.Goals as goal

pub loop-entry-preserved : goal.loop-entry-preserved
loop-entry-preserved c =
    counted_more column c.args.columns.now c.loop-entry.entry-index c.entry-item.result 2 c.loop-entry.sum _ _ c.loop-entry-test.true
    c.entry-item.is c.loop-entry.invariant c.of_column.ensures c.saturating_add-sum.ensures

pub returns : goal.returns
returns c =
    omega (
      arith,
      counted_all column c.args.columns.now c.loop-entry.entry-index 2 c.loop-entry.sum c.loop-entry-test.false
          c.loop-entry.invariant,
      length-append (flat_map column c.args.columns.now) (0 ∷ []),
    )
