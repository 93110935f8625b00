-- What `cancel_all` ensures.
use Rattle.std.proofs.Common.{◌≡◌, map, subst}
use Rattle.repl_sync.specs.State.{State}
use Rattle.repl_sync.specs.Sync.{cancels_ticket}
use Rattle.repl_sync.specs.Inside.{state_of}
use Rattle.repl_sync.proofs.Settled.{none_released}
use Rattle.repl_sync.proofs.state.SyncState.cancel_all.Goals as goal

pub returns : goal.returns
returns c =
    let new = c.cancel_all.new.parts in (
      state_of new,
      subst (λ (s : State). state_of new ≡ record s { tickets = map cancels_ticket s.tickets }) c.self.view_is
          c.cancel_all.ensures.cancelled,
      none_released new c.cancel_all.ensures.kept,
    )
