-- What a file written aside leaves of each image, call by call.
use Rattle.std.proofs.Common.{Some, None, ◌∙◌, ap}
use Rattle.std.specs.Option.{option_map}
use Rattle.repl_disk.specs.Folder.{put, written}
use Rattle.repl_disk.specs.Crash.{Removes, Either, Tears, Syncs}
use Rattle.repl_disk.specs.Runs.{begun_within, ran_within, stays, told_so, where_told}
use Rattle.repl_disk.specs.Steps.{keeps_either, keeps_remove, keeps_sync, keeps_tear, put_at}
use Rattle.repl_disk.specs.Replacing.{IsAside}
use Rattle.repl_disk.proofs.Telling.{written_anew, composed}
use Rattle.repl_disk.proofs.Aside.{at_first, leaves_ok, on_ok, steps_aside, synced_aside}
use Rattle.repl_disk.proofs.replacing.write_aside.Goals as goal

pub returns-in_err-clear-clause-any_moment : goal.returns-in_err-clear-clause-any_moment
returns-in_err-clear-clause-any_moment g c =
    let state = g.D.Disk.state in
    let name = c.args.name.now in
    let old = (state c.args.disk.now).may_leave in
    where_told _ _ (λ folder told.
    let start = begun_within (state c.args.disk.now) folder (IsAside old name) told (g.met.D.Disk.only_now c.args.disk.now)
    (at_first old name) in
    (ran_within c.clear.result _ _ (state c.clear.new.disk) _ folder (λ f. put f name None)
    (λ f. Either (Removes name)) start c.clear.ensures.files c.clear.ensures.crash c.clear.ensures.time
    (steps_aside old name _ (keeps_either name _ (keeps_remove name)))).1.any_moment)

pub returns-in_err-write_at-clause-any_moment : goal.returns-in_err-write_at-clause-any_moment
returns-in_err-write_at-clause-any_moment g c =
    let state = g.D.Disk.state in
    let name = c.args.name.now in
    let old = (state c.args.disk.now).may_leave in
    where_told _ _ (λ folder told.
    let start = begun_within (state c.args.disk.now) folder (IsAside old name) told (g.met.D.Disk.only_now c.args.disk.now)
    (at_first old name) in
    let cleared = ran_within c.clear.result _ _ (state c.clear.new.disk) _ folder (λ f. put f name None)
    (λ f. Either (Removes name)) start c.clear.ensures.files c.clear.ensures.crash c.clear.ensures.time
    (steps_aside old name _ (keeps_either name _ (keeps_remove name))) in
    (ran_within c.write_at.result _ _ (state c.write_at.new.self) _ cleared.0 (λ f. written f name 0 c.args.bytes.now)
    (λ f. Tears name 0 _) cleared.1 c.write_at.ensures.written c.write_at.ensures.crash c.write_at.ensures.ends.time
    (steps_aside old name _ (keeps_tear name 0 _))).1.any_moment)

pub returns-clause-any_moment : goal.returns-clause-any_moment
returns-clause-any_moment g c =
    let state = g.D.Disk.state in
    let name = c.args.name.now in
    let old = (state c.args.disk.now).may_leave in
    where_told _ _ (λ folder told.
    let start = begun_within (state c.args.disk.now) folder (IsAside old name) told (g.met.D.Disk.only_now c.args.disk.now)
    (at_first old name) in
    let cleared = ran_within c.clear.result _ _ (state c.clear.new.disk) _ folder (λ f. put f name None)
    (λ f. Either (Removes name)) start c.clear.ensures.files c.clear.ensures.crash c.clear.ensures.time
    (steps_aside old name _ (keeps_either name _ (keeps_remove name))) in
    let wrote = ran_within c.write_at.result _ _ (state c.write_at.new.self) _ cleared.0 (λ f. written f name 0 c.args.bytes.now)
    (λ f. Tears name 0 _) cleared.1 c.write_at.ensures.written c.write_at.ensures.crash c.write_at.ensures.ends.time
    (steps_aside old name _ (keeps_tear name 0 _)) in
    (ran_within c.sync.result _ _ (state c.sync.new.self) _ wrote.0 (λ f. f) (λ f. Syncs name (f name)) wrote.1
    (stays c.sync.result _ _ wrote.0 wrote.1.reads c.sync.ensures.files) c.sync.ensures.crash c.sync.ensures.ends.time
    (steps_aside old name _ (keeps_sync name _))).1.any_moment)

pub returns-clause-durable : goal.returns-clause-durable
returns-clause-durable g c = on_ok c.sync.result _ (λ x ok.
    let state = g.D.Disk.state in
    let name = c.args.name.now in
    let bytes = c.args.bytes.now in
    let old = (state c.args.disk.now).may_leave in
    where_told _ _ (λ folder told.
    let start = begun_within (state c.args.disk.now) folder (IsAside old name) told (g.met.D.Disk.only_now c.args.disk.now)
    (at_first old name) in
    let cleared = ran_within c.clear.result _ _ (state c.clear.new.disk) _ folder (λ f. put f name None)
    (λ f. Either (Removes name)) start c.clear.ensures.files c.clear.ensures.crash c.clear.ensures.time
    (steps_aside old name _ (keeps_either name _ (keeps_remove name))) in
    let wrote = ran_within c.write_at.result _ _ (state c.write_at.new.self) _ cleared.0 (λ f. written f name 0 c.args.bytes.now)
    (λ f. Tears name 0 _) cleared.1 c.write_at.ensures.written c.write_at.ensures.crash c.write_at.ensures.ends.time
    (steps_aside old name _ (keeps_tear name 0 _)) in
    let last = c.in_ok-write_at.ensures.written ∙ ap (option_map (λ f. written f name 0 bytes))
    (c.in_ok-clear.ensures.files ∙ ap (option_map (λ f. put f name None)) told) in
    let file = ap (λ f. f name) (written_anew folder name bytes) ∙ put_at folder name (Some bytes) in
    synced_aside name bytes _ old (state c.write_at.new.self).may_leave (state c.sync.new.self).may_leave file
    (leaves_ok c.sync.result x ok _ _ _ (told_so _ _ _ last c.sync.ensures.crash)) wrote.1.now))

pub returns-clause-files : goal.returns-clause-files
returns-clause-files g c = on_ok c.sync.result _ (λ x ok.
    let name = c.args.name.now in
    let bytes = c.args.bytes.now in
    c.sync.ensures.files ∙ c.in_ok-write_at.ensures.written ∙ ap (option_map (λ f. written f name 0 bytes)) c.in_ok-clear.ensures.files
    ∙ composed (g.D.Disk.state c.args.disk.now).files (λ f. put f name None) (λ f. written f name 0 bytes) (λ f. put f name (Some bytes))
    (λ f. written_anew f name bytes))
