-- A fault refutes the prefix.
use Rattle.std.proofs.Common.{◌++◌}
use Rattle.repl_walk.proofs.Faults.{fault_more, fault_refutes}
use Rattle.repl_walk.proofs.end_laws.fault_refutes_prefix.Goals as goal

pub returns : goal.returns
returns c ident timeline from prev log more at reason size_is eight fault = fault_refutes ident timeline from prev (log ++ more) fault.end
    fault.last at reason size_is eight (fault_more ident timeline from prev log more fault.end fault.last at reason fault.past)
