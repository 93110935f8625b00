-- The timeline of a position is a function of path and position.
use Rattle.std.proofs.Common.{subst, sym}
use Rattle.repl_lsn.specs.Path.{IsOn}
use Rattle.repl_lsn.proofs.Holders.{holder_on, is_holder, own_holder, child_holder}
use Rattle.repl_lsn.proofs.path_laws.timeline_of_position.Goals as goal

pub returns-clause-is_on : goal.returns-clause-is_on
returns-clause-is_on c = λ path tli at order. (is_holder path tli at order, λ e. subst (λ n. IsOn path n at) (sym e) (holder_on path at))

pub returns-clause-own : goal.returns-clause-own
returns-clause-own c = λ path at order h. own_holder path.own path.parents at order h

pub returns-clause-interval : goal.returns-clause-interval
returns-clause-interval c = λ path tli start at end order holds from below.
    sym (is_holder path tli at order (record { start = start; end = end; holds = holds; from = from; below = below }))

pub returns-clause-child : goal.returns-clause-child
returns-clause-child c = λ a b switch at _ order child h. child_holder a b switch at order child h
