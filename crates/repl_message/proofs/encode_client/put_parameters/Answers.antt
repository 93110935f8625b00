-- One more parameter is written, whose name is not empty, and at the end all are.
use Rattle.std.proofs.Common.{◌<◌, [], length, subst}
use Rattle.std.specs.List.{AllByRecursion}
use Rattle.repl_message.specs.declared.startup.Pair.{Pair}
use Rattle.repl_message.specs.Message.{pair, FitsPair}
use Rattle.repl_message.proofs.Appending.{fits_more, fits_all, fits_at}
use Rattle.repl_message.proofs.Counting.{added_more}
use Rattle.repl_message.proofs.encode_client.put_parameters.Goals as goal

pub loop-entry-preserved : goal.loop-entry-preserved
loop-entry-preserved c =
    let entries = c.as_slice-entry-items.result.now in
    let i = c.loop-entry.entry-index in
    let named = fits_at (λ (p : Pair). 0 < length p.name) c.args.pairs.now entries i c.entry-item.result
    c.as_slice-entry-items.ensures.value c.as_slice-entry-items.ensures.named c.loop-entry-test.true c.entry-item.is in
    let texts = c.in_ok-put_strings.ensures.fits in
    record {
      added = added_more pair entries i c.entry-item.result c.args.out.now.items _ _ [] c.loop-entry-test.true c.entry-item.is
          c.loop-entry.invariant.added c.in_ok-put_strings.ensures.put.ok;
      fit = fits_more FitsPair entries i c.entry-item.result c.loop-entry-test.true c.entry-item.is c.loop-entry.invariant.fit
          (record { named = named; name = texts.0; value = texts.1 });
    }

pub returns-clause-fits : goal.returns-clause-fits
returns-clause-fits c =
    subst (AllByRecursion FitsPair) c.as_slice-entry-items.ensures.value
    (fits_all FitsPair _ _ c.loop-entry-test.false c.loop-entry.invariant.fit)
