-- A mounted store and its files hang together.
use Rattle.repl_store.proofs.Apart.{apart_reads}
use Rattle.repl_store.proofs.Mounting.{mounted_backs}
use Rattle.repl_store.proofs.store.Store.mount.Goals as goal

pub returns-in-Ok-clause-backs : goal.returns-in-Ok-clause-backs
returns-in-Ok-clause-backs g c folder d told stands images =
    let state = g.D.Disk.state in
    let done = c.in-Ok.ensures in
    mounted_backs (state c.args.disk) (state c.read_head.new.disk) c.in-Ok.head _ folder d told done.asks.only.stayed done.asks.only.none_new
    done.read stands images

pub returns-in-Ok-clause-apart : goal.returns-in-Ok-clause-apart
returns-in-Ok-clause-apart g c =
    apart_reads (g.D.Disk.state c.args.disk) (g.D.Disk.state c.read_head.new.disk) c.in-Ok.ensures.asks.only

pub returns-in-Err-clause-apart : goal.returns-in-Err-clause-apart
returns-in-Err-clause-apart g c =
    apart_reads (g.D.Disk.state c.args.disk) (g.D.Disk.state c.read_head.new.disk) c.in-Err.ensures.asks.only
