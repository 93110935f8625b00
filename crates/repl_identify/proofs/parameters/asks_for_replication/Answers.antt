-- The three tests together are what a connection for replication asks.
use Rattle.std.proofs.Common.{sym, ◌∙◌}
use Rattle.repl_identify.proofs.Replication.{replicates}
use Rattle.repl_identify.proofs.parameters.asks_for_replication.Goals as goal
use Rattle.repl_identify.proofs.parameters.asks_for_replication.Goals.{then-has_user, else-has_user}

pub returns-then-is_physical : goal.returns-then-is_physical
returns-then-is_physical c =
    elim c.if-has_user.branch [
      | then-has_user w ↦ replicates c.args.pairs.now _ _ _ (rw c.as_slice.ensures.value at c.has_user.ensures) w.if-has_user.true
          w.is_physical.ensures (sym w.value-is ∙ c.if-is_physical.true)
          (rw c.as_slice-then-is_physical.ensures.value at c.has_no_option.ensures)
      | else-has_user w ↦ absurd cc
    ]
