-- The file after a write, which keeps how the write is taken back.
use Rattle.std.proofs.Common.{rules}
use Rattle.repl_disk.proofs.memory_file.File.write.Goals as goal
use Rattle.repl_disk.proofs.Writes.{within_from}

pub invariant_of-self-2 : goal.invariant_of-self-2
invariant_of-self-2 c = within_from c.self.inside.undos.items c.push_reserved.new.self.items c.in_ok-undo.undo c.self.inside.bytes.items
    c.overwrite.new.content.items c.args.at c.args.bytes.now c.self.invariant (search rules) (search rules) (search rules)
