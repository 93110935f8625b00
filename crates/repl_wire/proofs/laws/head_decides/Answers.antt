-- Where a head is short or wrong, so is the frame, and a frame that is there ends where its head says.
use Rattle.repl_wire.proofs.Heads.{head_short, head_wrong, head_part, head_whole, head_first}
use Rattle.repl_wire.proofs.laws.head_decides.Goals as goal

pub returns-clause-short : goal.returns-clause-short
returns-clause-short c = head_short

pub returns-clause-wrong : goal.returns-clause-wrong
returns-clause-wrong c = head_wrong

pub returns-clause-part : goal.returns-clause-part
returns-clause-part c = head_part

pub returns-clause-whole : goal.returns-clause-whole
returns-clause-whole c = head_whole

pub returns-clause-first : goal.returns-clause-first
returns-clause-first c = head_first
