-- The last value of `replication` is the one that counts.
use Rattle.repl_identify.proofs.Replication.{physical_value, physical_none}
use Rattle.repl_identify.proofs.parameters.is_physical.Goals as goal

pub returns-in-Some : goal.returns-in-Some
returns-in-Some c = physical_value c.args.pairs.now c.in-Some.value.now c.is_true_value.result c.in-Some.ensures
    (rw c.as_slice.ensures.value at c.is_true_value.ensures)

pub returns-in-None : goal.returns-in-None
returns-in-None c = (λ e. absurd cc, λ p. absurd (physical_none c.args.pairs.now c.in-None.ensures p))
