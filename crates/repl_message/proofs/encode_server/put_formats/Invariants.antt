-- The format codes so far are written.
use Rattle.std.proofs.Common.{◌≡◌, ◌++◌, length, take}
use Rattle.std.specs.List.{flat_map}
use Rattle.repl_message.specs.Message.{int16}
use Rattle.repl_message.proofs.encode_server.put_formats.Given as goal

abbrev pub invariant-loop-entry : goal.invariant-loop-entry
invariant-loop-entry l =
    l.out.items ≡ l.fn.out.items ++ (int16 (length l.entries) ++ flat_map int16 (take l.entry-index l.entries))
