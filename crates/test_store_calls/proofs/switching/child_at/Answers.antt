-- The steps of a child.
use Rattle.test_store_calls.proofs.Switches.{child_steps}
use Rattle.test_store_calls.proofs.switching.child_at.Goals as goal

pub returns : goal.returns
returns c = child_steps _ _ _ _ _ c.in_ok-child.ensures
