-- What `set_names` ensures.
use Rattle.repl_sync.proofs.Settled.{rename_step}
use Rattle.repl_sync.proofs.state.SyncState.set_names.Goals as goal

pub returns : goal.returns
returns c = rename_step c.self.inside.parts c.rename.new.parts c.args.self.now c.args.list.now c.rename.result c.self.view_is
    c.rename.ensures.renamed
