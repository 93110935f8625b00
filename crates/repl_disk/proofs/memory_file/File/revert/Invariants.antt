-- The writes that are left to take back, newest first.
use Rattle.std.proofs.Common.{◌≡◌, length, reverse}
use Rattle.std.specs.Prelude.{false}
use Rattle.repl_disk.proofs.memory_file.File.revert.Given as goal
use Rattle.repl_disk.specs.Stored.{unwritten_all, AreWithin}

abbrev pub invariant-loop-undo : goal.invariant-loop-undo
invariant-loop-undo l = record {
  name : l.self-inside.name ≡ l.initial.self-inside.name;
  made : l.self-inside.made ≡ false;
  within : AreWithin (reverse l.self-inside.undos.items) l.self-inside.bytes.items;
  bytes : unwritten_all (reverse l.self-inside.undos.items) l.self-inside.bytes.items ≡ unwritten_all l.fn.self.undos l.fn.self.bytes;
}

abbrev pub decreases-loop-undo : goal.decreases-loop-undo
decreases-loop-undo l = length l.self-inside.undos.items
