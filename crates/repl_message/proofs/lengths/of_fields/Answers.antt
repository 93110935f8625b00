-- One more column is counted, and at the end all are.
use Rattle.std.proofs.Common.{◌∷◌, [], arith, length-append}
use Rattle.std.specs.List.{flat_map}
use Rattle.repl_message.specs.Message.{field}
use Rattle.repl_message.proofs.Counting.{counted_more, counted_all}
use Rattle.repl_message.proofs.lengths.of_fields.Goals as goal

pub loop-entry-preserved : goal.loop-entry-preserved
loop-entry-preserved c =
    counted_more field c.args.fields.now c.loop-entry.entry-index c.entry-item.result 2 c.loop-entry.sum _ _ c.loop-entry-test.true
    c.entry-item.is c.loop-entry.invariant c.of_field.ensures c.saturating_add-sum.ensures

pub returns : goal.returns
returns c =
    omega (
      arith,
      counted_all field c.args.fields.now c.loop-entry.entry-index 2 c.loop-entry.sum c.loop-entry-test.false
          c.loop-entry.invariant,
      length-append (flat_map field c.args.fields.now) (0 ∷ []),
    )
