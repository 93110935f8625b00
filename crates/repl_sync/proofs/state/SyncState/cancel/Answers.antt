-- What `cancel` ensures.
use Rattle.std.proofs.Common.{Bool, Result, sym, subst}
use Rattle.repl_sync.specs.declared.fault.SyncFault.{SyncFault}
use Rattle.repl_sync.specs.Sync.{SyncStep, Cancel, done}
use Rattle.repl_sync.specs.Inside.{Cancels, state_of}
use Rattle.repl_sync.proofs.Settled.{cancel_done, cancel_refused}
use Rattle.repl_sync.proofs.state.SyncState.cancel.Goals as goal
use Rattle.repl_sync.proofs.state.SyncState.cancel.Goals.{then-cancel, else-cancel}

pub returns : goal.returns
returns c =
    let old = c.self.inside.parts in
    let new = c.cancel.new.parts in
    let t = c.args.ticket in
    elim c.if-cancel.branch [
      | then-cancel w ↦ subst (λ (r : Result Unit SyncFault). SyncStep c.args.self.now (Cancel t) (done r) (state_of new)) (sym w.result-is)
          (cancel_done old new c.args.self.now t c.self.view_is
          (subst (λ (b : Bool). Cancels old t b new) w.if-cancel.true c.cancel.ensures.cancelled) c.cancel.ensures.kept)
      | else-cancel w ↦ subst (λ (r : Result Unit SyncFault). SyncStep c.args.self.now (Cancel t) (done r) (state_of new)) (sym w.result-is)
          (cancel_refused old new c.args.self.now t c.self.view_is
          (subst (λ (b : Bool). Cancels old t b new) w.if-cancel.false c.cancel.ensures.cancelled))
    ]
