-- What `prepare` ensures.
use Rattle.repl_sync.proofs.Settled.{prepare_step}
use Rattle.repl_sync.proofs.state.SyncState.prepare.Goals as goal

pub returns : goal.returns
returns c = prepare_step c.self.inside.parts c.prepare.new.parts c.args.self.now c.prepare.result c.self.view_is c.prepare.ensures.prepared
    c.prepare.ensures.kept
