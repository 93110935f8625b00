-- What is spelled is read, and each fault is told where it has its cause.
use Rattle.repl_copy.proofs.Causes.{exact_stream}
use Rattle.repl_copy.proofs.decode.decode_stream.Goals as goal

pub returns-in-Some-eq107-clause-exact : goal.returns-in-Some-eq107-clause-exact
returns-in-Some-eq107-clause-exact c =
    let same = c.as_slice-in-Some-eq107.ensures in
    exact_stream c.args.payload c.keepalive.result (rw same at c.keepalive.ensures.read) (rw same at c.keepalive.ensures.refused)
