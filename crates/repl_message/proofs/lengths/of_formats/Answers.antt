-- Each format code has two bytes.
use Rattle.std.proofs.Common.{arith}
use Rattle.repl_message.proofs.Counting.{length-formats}
use Rattle.repl_message.proofs.lengths.of_formats.Goals as goal

pub returns : goal.returns
returns c = omega (arith, length-formats c.args.formats.now)
