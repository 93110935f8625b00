-- What `connect` ensures.
use Rattle.repl_sync.proofs.Settled.{connect_step}
use Rattle.repl_sync.proofs.state.SyncState.connect.Goals as goal

pub returns : goal.returns
returns c = connect_step c.self.inside.parts c.connect.new.parts c.args.self.now c.args.session c.args.name.now c.connect.result
    c.self.view_is
    c.connect.ensures.connected
