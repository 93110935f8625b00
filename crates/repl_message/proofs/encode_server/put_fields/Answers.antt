-- One more column is written, and at the end all are.
use Rattle.std.proofs.Common.{length, subst, rules}
use Rattle.std.specs.List.{AllByRecursion}
use Rattle.repl_message.specs.Message.{int16, field, FitsField}
use Rattle.repl_message.proofs.Appending.{fits_more, fits_all}
use Rattle.repl_message.proofs.Counting.{added_more}
use Rattle.repl_message.proofs.Extending.{Extends-after, at_err}
use Rattle.repl_message.proofs.encode_server.put_fields.Goals as goal

pub loop-entry-preserved : goal.loop-entry-preserved
loop-entry-preserved c =
    let entries = c.as_slice-entries.result.now in
    let i = c.loop-entry.entry-index in
    record {
      added = added_more field entries i c.entry-item.result c.args.out.now.items _ _ (int16 (length entries)) c.loop-entry-test.true
          c.entry-item.is
          c.loop-entry.invariant.added c.in_ok-put_field.ensures.put.ok;
      fit = fits_more FitsField entries i c.entry-item.result c.loop-entry-test.true c.entry-item.is c.loop-entry.invariant.fit
          c.in_ok-put_field.ensures.fits;
    }

pub returns-in_err-put_field-clause-put : goal.returns-in_err-put_field-clause-put
returns-in_err-put_field-clause-put c = record {
  ok = search rules;
  err = at_err c.from_residual-in_err-put_field.result (Extends-after _ _ _ _ c.loop-entry.invariant.added
      c.in_err-put_field.ensures.put.err);
}

pub returns-clause-fits : goal.returns-clause-fits
returns-clause-fits c = (
  c.as_slice-entries.ensures.few,
  subst (AllByRecursion FitsField) c.as_slice-entries.ensures.value
      (fits_all FitsField _ _ c.loop-entry-test.false c.loop-entry.invariant.fit),
)
