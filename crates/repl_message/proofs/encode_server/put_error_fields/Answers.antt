-- One more field is written, whose code is not 0, and at the end all are.
use Rattle.std.proofs.Common.{◌<◌, [], subst}
use Rattle.std.specs.List.{AllByRecursion}
use Rattle.repl_message.specs.declared.back.ErrorField.{ErrorField}
use Rattle.repl_message.specs.Message.{error_field, FitsErrorField}
use Rattle.repl_message.proofs.Appending.{fits_more, fits_all, fits_at}
use Rattle.repl_message.proofs.Counting.{added_more}
use Rattle.repl_message.proofs.encode_server.put_error_fields.Goals as goal

pub put_error_field-requires : goal.put_error_field-requires
put_error_field-requires c =
    fits_at (λ (f : ErrorField). 0 < f.code) c.args.fields.now c.as_slice-entry-items.result.now c.loop-entry.entry-index
    c.entry-item.result
    c.as_slice-entry-items.ensures.value c.as_slice-entry-items.ensures.coded c.loop-entry-test.true c.entry-item.is

pub loop-entry-preserved : goal.loop-entry-preserved
loop-entry-preserved c =
    let entries = c.as_slice-entry-items.result.now in
    let i = c.loop-entry.entry-index in
    record {
      added = added_more error_field entries i c.entry-item.result c.args.out.now.items _ _ [] c.loop-entry-test.true c.entry-item.is
          c.loop-entry.invariant.added c.in_ok-put_error_field.ensures.put.ok;
      fit = fits_more FitsErrorField entries i c.entry-item.result c.loop-entry-test.true c.entry-item.is c.loop-entry.invariant.fit
          c.in_ok-put_error_field.ensures.fits;
    }

pub returns-clause-fits : goal.returns-clause-fits
returns-clause-fits c =
    subst (AllByRecursion FitsErrorField) c.as_slice-entry-items.ensures.value
    (fits_all FitsErrorField _ _ c.loop-entry-test.false c.loop-entry.invariant.fit)
