-- The register and the rest leave what all of the bytes do; the rest gets shorter.
use Rattle.std.proofs.Common.{◌≡◌, length}
use Rattle.repl_record.specs.Checksum.{remainder, message}
use Rattle.repl_record.proofs.checksum.crc32c.Given as goal

abbrev pub invariant-loop-rest : goal.invariant-loop-rest
invariant-loop-rest l = remainder l.register (message l.rest) ≡ remainder l.initial.register (message l.bytes)

abbrev pub decreases-loop-rest : goal.decreases-loop-rest
decreases-loop-rest l = length l.rest
