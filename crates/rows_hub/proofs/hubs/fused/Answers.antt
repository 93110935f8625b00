-- A fuse changes nothing that the node remembers.
use Rattle.repl_disk.specs.Memory.{state_of}
use Rattle.repl_hub.proofs.Nodes.{over_any, remembered, untold}
use Rattle.rows_hub.proofs.hubs.fused.Goals as goal

pub returns-in-Some : goal.returns-in-Some
returns-in-Some c =
    let n = untold c.requires.0 in (
      n,
      remembered (state_of c.fuse.new.self.wal.disk) c.fuse.new.self n
          (c.fuse.ensures.same n (over_any (state_of c.args.node.wal.disk) c.args.node c.requires.0 c.requires.1)),
    )
