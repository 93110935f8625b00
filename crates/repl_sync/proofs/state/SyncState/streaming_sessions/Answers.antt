-- What `streaming_sessions` ensures of every state.
use Rattle.std.proofs.Common.{subst}
use Rattle.repl_sync.specs.State.{IsState}
use Rattle.repl_sync.proofs.Lawful.{kept_state}
use Rattle.repl_sync.proofs.state.SyncState.streaming_sessions.Goals as goal

pub returns-clause-state : goal.returns-clause-state
returns-clause-state c = subst IsState c.self.view_is (kept_state c.self.inside.parts c.self.invariant)
