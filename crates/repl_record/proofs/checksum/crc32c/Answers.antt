-- Sixteen bytes go on, and then the rest.
use Rattle.std.proofs.Common.{◌∙◌}
use Rattle.repl_record.proofs.ChecksumTurns.{remainder-turn}
use Rattle.repl_record.proofs.checksum.crc32c.Goals as goal

pub loop-rest-preserved : goal.loop-rest-preserved
loop-rest-preserved c =
    remainder-turn 16 c.loop-rest.register c.after_sixteen-register.result c.loop-rest.rest.now c.after_sixteen-register.ensures
    ∙ c.loop-rest.invariant
