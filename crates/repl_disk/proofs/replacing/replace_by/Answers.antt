-- What a replacement leaves of each image, from what is written aside and the rename.
use Rattle.std.proofs.Common.{Some, ◌∙◌, ap}
use Rattle.std.specs.Option.{option_map}
use Rattle.repl_disk.specs.Folder.{put}
use Rattle.repl_disk.specs.Moments.{weakened, goes_on}
use Rattle.repl_disk.specs.Runs.{told_so, where_told}
use Rattle.repl_disk.proofs.Aside.{aside_is_before, leaves_either, half_aside_is_half_done, on_err}
use Rattle.repl_disk.proofs.replacing.replace_by.Goals as goal

pub returns-in_err-write_aside-clause-any_moment : goal.returns-in_err-write_aside-clause-any_moment
returns-in_err-write_aside-clause-any_moment g c =
    where_told _ _ (λ folder told.
    weakened _ _ _ _ (told_so _ folder _ told c.write_aside.ensures.any_moment)
    (aside_is_before c.args.name.now c.args.aside.now c.args.bytes.now c.requires (g.D.Disk.state c.args.disk.now).may_leave))

pub returns-in_err-write_aside-clause-half_done : goal.returns-in_err-write_aside-clause-half_done
returns-in_err-write_aside-clause-half_done g c =
    on_err _ _ (half_aside_is_half_done c.args.name.now c.args.aside.now c.args.bytes.now c.requires _ _
    c.in_err-write_aside.ensures.half_done)

pub returns-clause-any_moment : goal.returns-clause-any_moment
returns-clause-any_moment g c =
    let state = g.D.Disk.state in
    let name = c.args.name.now in
    let aside = c.args.aside.now in
    let bytes = c.args.bytes.now in
    let old = (state c.args.disk.now).may_leave in
    where_told _ _ (λ folder told.
    let wrote = weakened _ _ _ _ (told_so _ folder _ told c.write_aside.ensures.any_moment)
    (aside_is_before name aside bytes c.requires old) in
    let next = c.in_ok-write_aside.ensures.files ∙ ap (option_map (λ f. put f aside (Some bytes))) told in
    let has = told_so _ folder _ told c.in_ok-write_aside.ensures.durable in
    let last = leaves_either name aside bytes c.rename.result c.requires old (state c.write_aside.new.disk).may_leave
    (state c.rename.new.self).may_leave has (told_so _ _ _ next c.rename.ensures.crash) in
    goes_on _ (state c.write_aside.new.disk) (state c.rename.new.self) _ wrote c.rename.ensures.ends.time last)
