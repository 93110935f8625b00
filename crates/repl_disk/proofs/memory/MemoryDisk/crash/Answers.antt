-- What a crash leaves is one of the images.
use Rattle.std.proofs.Common.{⊎_elim, subst, sym}
use Rattle.std.proofs.lemmas.Bool.{cases_Bool}
use Rattle.repl_disk.proofs.memory.MemoryDisk.crash.Goals as goal
use Rattle.repl_disk.proofs.Images.{certain_image}
use Rattle.repl_disk.specs.Files.{folder_of}
use Rattle.repl_disk.specs.Folder.{Folder}
use Rattle.repl_disk.specs.Images.{reads_as_image}
use Rattle.repl_disk.specs.Memory.{Memory, LeavesNow, IsImage}

pub returns-clause-image : goal.returns-clause-image
returns-clause-image c =
    let image : IsImage c.self.inside.history.calls (folder_of c.self.inside.history.files) (folder_of c.crash.result.files) =
    ⊎_elim
    (λ keep. subst (λ (f : Folder). IsImage c.self.inside.history.calls (folder_of c.self.inside.history.files) f)
    (sym (c.crash.ensures.kept keep)) (reads_as_image c.self.inside.history.calls (folder_of c.self.inside.history.files)))
    (λ lose. subst (λ (f : Folder). IsImage c.self.inside.history.calls (folder_of c.self.inside.history.files) f)
    (sym (c.crash.ensures.lost lose)) (certain_image c.self.inside.history.calls (folder_of c.self.inside.history.files)))
    (cases_Bool c.args.keep) in
    subst (λ (m : Memory). LeavesNow m (folder_of c.crash.result.files)) c.self.view_is image
