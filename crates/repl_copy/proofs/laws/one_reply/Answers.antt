-- A payload of a standby spells one value.
use Rattle.repl_copy.proofs.OneValue.{reply_one}
use Rattle.repl_copy.proofs.laws.one_reply.Goals as goal

pub returns : goal.returns
returns c = reply_one
