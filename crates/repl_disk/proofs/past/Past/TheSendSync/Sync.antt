-- It has no bytes, so threads may share it.
use denote.Param.Send.{IsSync, part_keyless}
use Rattle.repl_disk.proofs.past.Past.TheSendSync.Send.{send}
use Rattle.repl_disk.specs.contracts.past.Past.{the_row}

pub sync : IsSync the_row
sync = record { shared = λ d b o κ q. part_keyless the_row send q d b o }
