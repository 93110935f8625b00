-- One file more is taken back.
use Rattle.std.proofs.Common.{◌<◌, length, get_or, rules}
use Rattle.std.proofs.lemmas.List.{get_or_default}
use Rattle.std.proofs.lemmas.List.Edits.{map_over_more}
use Rattle.repl_disk.specs.Stored.{Stored, reverted}
use Rattle.repl_disk.proofs.memory_files.revert_each.Goals as goal

pub loop-file-preserved : goal.loop-file-preserved
loop-file-preserved c =
    let file : Stored = get_or c.loop-file.file-items c.loop-file.file-index c.file-item.result in
    let within : c.loop-file.file-index < length c.loop-file.file-items = search rules in
    rw c.revert.ensures (map_over_more reverted c.deref_mut-file-items.result.now c.loop-file.file-items c.loop-file.file-index file
    (search rules) c.loop-file.invariant (get_or_default c.loop-file.file-items c.loop-file.file-index c.file-item.result file within))
