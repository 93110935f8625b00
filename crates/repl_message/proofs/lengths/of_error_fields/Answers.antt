-- One more field is counted, and at the end all are.
use Rattle.std.proofs.Common.{◌∷◌, [], arith, length-append}
use Rattle.std.specs.List.{flat_map}
use Rattle.repl_message.specs.Message.{error_field}
use Rattle.repl_message.proofs.Counting.{counted_more, counted_all}
use Rattle.repl_message.proofs.lengths.of_error_fields.Goals as goal

pub loop-entry-preserved : goal.loop-entry-preserved
loop-entry-preserved c =
    counted_more error_field c.args.fields.now c.loop-entry.entry-index c.entry-item.result 1 c.loop-entry.sum _ _ c.loop-entry-test.true
    c.entry-item.is c.loop-entry.invariant c.of_error_field.ensures c.saturating_add-sum.ensures

pub returns : goal.returns
returns c =
    omega (
      arith,
      counted_all error_field c.args.fields.now c.loop-entry.entry-index 1 c.loop-entry.sum c.loop-entry-test.false
          c.loop-entry.invariant,
      length-append (flat_map error_field c.args.fields.now) (0 ∷ []),
    )
