-- One more value is written, which is no longer than all of them, and at the end all are.
use Rattle.std.proofs.Common.{ℕ, List, Option, length, ap, subst, arith}
use Rattle.std.specs.List.{AllByRecursion}
use Rattle.repl_message.specs.Message.{int16, column, counted, FitsColumn}
use Rattle.repl_message.proofs.Appending.{fits_more, fits_all}
use Rattle.repl_message.proofs.Counting.{added_more, entry_fits}
use Rattle.repl_message.proofs.encode_server.put_columns.Goals as goal

pub put_column-requires : goal.put_column-requires
put_column-requires c =
    let fits = entry_fits column c.as_slice-entries.result.now c.loop-entry.entry-index c.entry-item.result c.loop-entry-test.true
    c.entry-item.is in
    let same = ap (λ (xs : List (Option (List ℕ))). length (counted column xs)) c.as_slice-entries.ensures.value in
    omega (arith, fits, same, c.requires)

pub loop-entry-preserved : goal.loop-entry-preserved
loop-entry-preserved c =
    let entries = c.as_slice-entries.result.now in
    let i = c.loop-entry.entry-index in
    record {
      added = added_more column entries i c.entry-item.result c.args.out.now.items _ _ (int16 (length entries)) c.loop-entry-test.true
          c.entry-item.is
          c.loop-entry.invariant.added c.in_ok-put_column.ensures.put.ok;
      fit = fits_more FitsColumn entries i c.entry-item.result c.loop-entry-test.true c.entry-item.is c.loop-entry.invariant.fit
          c.in_ok-put_column.ensures.fits;
    }

pub returns-clause-fits : goal.returns-clause-fits
returns-clause-fits c = (
  c.as_slice-entries.ensures.few,
  subst (AllByRecursion FitsColumn) c.as_slice-entries.ensures.value
      (fits_all FitsColumn _ _ c.loop-entry-test.false c.loop-entry.invariant.fit),
)
