-- A payload of a server spells one value.
use Rattle.repl_copy.proofs.OneValue.{stream_one}
use Rattle.repl_copy.proofs.laws.one_stream.Goals as goal

pub returns : goal.returns
returns c = stream_one
