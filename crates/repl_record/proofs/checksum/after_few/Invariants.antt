-- The register and the bytes after the index leave what all of them do.
use Rattle.std.proofs.Common.{◌≡◌, drop}
use Rattle.repl_record.specs.Checksum.{remainder, message}
use Rattle.repl_record.proofs.checksum.after_few.Given as goal

abbrev pub invariant-loop-byte : goal.invariant-loop-byte
invariant-loop-byte l = remainder l.register (message (drop l.byte-index l.bytes)) ≡ remainder l.initial.register (message l.bytes)
