-- What is spelled is read, and each fault is told where it has its cause.
use Rattle.repl_copy.proofs.Causes.{only_reply, exact_reply}
use Rattle.repl_copy.proofs.decode.decode_reply.Goals as goal

pub returns-in-Some-eq114-clause-only : goal.returns-in-Some-eq114-clause-only
returns-in-Some-eq114-clause-only c = only_reply c.args.payload.now c.status.result c.status.ensures.read c.status.ensures.refused

pub returns-in-Some-eq114-clause-exact : goal.returns-in-Some-eq114-clause-exact
returns-in-Some-eq114-clause-exact c = exact_reply c.args.payload.now c.status.result c.status.ensures.read c.status.ensures.refused
