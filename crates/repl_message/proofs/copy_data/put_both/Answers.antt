-- Both pieces are bytes.
use Rattle.std.proofs.Common.{◌<◌}
use Rattle.repl_message.proofs.Appending.{fits_both}
use Rattle.repl_message.proofs.copy_data.put_both.Goals as goal

pub returns-clause-fits : goal.returns-clause-fits
returns-clause-fits c = fits_both (λ b. b < 256) c.args.first.now c.args.second.now c.in_ok-put_bytes.ensures.fits
    c.in_ok-put_bytes-2.ensures.fits
