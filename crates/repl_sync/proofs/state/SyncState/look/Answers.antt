-- What `look` ensures.
use Rattle.std.proofs.Common.{subst}
use Rattle.repl_sync.specs.State.{State}
use Rattle.repl_sync.specs.Sync.{Looks}
use Rattle.repl_sync.specs.Inside.{state_of}
use Rattle.repl_sync.proofs.Settled.{none_released}
use Rattle.repl_sync.proofs.state.SyncState.look.Goals as goal

pub returns : goal.returns
returns c =
    let new = c.look.new.parts in (
      state_of new,
      subst (λ (s : State). Looks s c.args.ticket c.look.result (state_of new)) c.self.view_is c.look.ensures.answered,
      none_released new c.look.ensures.kept,
    )
