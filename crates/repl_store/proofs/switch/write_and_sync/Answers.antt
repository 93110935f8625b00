-- Only that file changes.
use Rattle.std.proofs.Common.{length}
use Rattle.repl_disk.specs.Crash.{LeavesOnly, Syncs, Tears}
use Rattle.repl_disk.specs.Folder.{Folder, written}
use Rattle.repl_disk.specs.Replacing.{IsAside}
use Rattle.repl_disk.specs.Runs.{begun_within, ran_within, stays, where_told}
use Rattle.repl_disk.specs.Steps.{keeps_sync, keeps_tear}
use Rattle.repl_store.proofs.Apart.{apart_on, apart_sync, apart_write}
use Rattle.repl_store.proofs.Switching.{aside_on, aside_self}
use Rattle.repl_store.proofs.switch.write_and_sync.Goals as goal

pub returns-in_err-write_at-clause-moments : goal.returns-in_err-write_at-clause-moments
returns-in_err-write_at-clause-moments g c =
    let old = g.D.Disk.state c.args.disk.now in
    let new = g.D.Disk.state c.write_at.new.self in
    let name = c.args.name.now in
    let bytes = c.args.bytes.now in
    let P : Folder → Type 0 = IsAside old.may_leave name in
    where_told old.files (λ folder. LeavesOnly old new P) (λ folder told.
    (ran_within c.write_at.result old old new P folder (λ f. written f name 0 bytes) (λ f. Tears name 0 (length bytes))
    (begun_within old folder P told (g.met.D.Disk.only_now c.args.disk.now) (aside_self old.may_leave name)) c.write_at.ensures.written
    c.write_at.ensures.crash c.write_at.ensures.ends.time
    (aside_on old.may_leave name (Tears name 0 (length bytes)) (keeps_tear name 0 (length bytes)))).1.any_moment)

pub returns-clause-moments : goal.returns-clause-moments
returns-clause-moments g c =
    let old = g.D.Disk.state c.args.disk.now in
    let mid = g.D.Disk.state c.write_at.new.self in
    let new = g.D.Disk.state c.sync.new.self in
    let name = c.args.name.now in
    let bytes = c.args.bytes.now in
    let P : Folder → Type 0 = IsAside old.may_leave name in
    where_told old.files (λ folder. LeavesOnly old new P) (λ folder told.
    let first = ran_within c.write_at.result old old mid P folder (λ f. written f name 0 bytes) (λ f. Tears name 0 (length bytes))
    (begun_within old folder P told (g.met.D.Disk.only_now c.args.disk.now) (aside_self old.may_leave name)) c.write_at.ensures.written
    c.write_at.ensures.crash c.write_at.ensures.ends.time
    (aside_on old.may_leave name (Tears name 0 (length bytes)) (keeps_tear name 0 (length bytes))) in
    (ran_within c.sync.result old mid new P first.0 (λ f. f) (λ f. Syncs name (f name)) first.1
    (stays c.sync.result mid.files new.files first.0 first.1.reads c.sync.ensures.files) c.sync.ensures.crash c.sync.ensures.ends.time
    (aside_on old.may_leave name (Syncs name (first.0 name)) (keeps_sync name (first.0 name)))).1.any_moment)

pub returns-in_err-write_at-clause-apart : goal.returns-in_err-write_at-clause-apart
returns-in_err-write_at-clause-apart g c = λ own.
    apart_write c.write_at.result (g.D.Disk.state c.args.disk.now) (g.D.Disk.state c.write_at.new.self)
    (g.met.D.Disk.only_now c.args.disk.now) c.write_at.ensures.ends.time c.args.name.now own 0 c.args.bytes.now c.write_at.ensures.written
    c.write_at.ensures.crash

pub returns-clause-apart : goal.returns-clause-apart
returns-clause-apart g c = λ own.
    let state = g.D.Disk.state in
    apart_on (state c.args.disk.now) (state c.write_at.new.self) (state c.sync.new.self)
    (apart_write c.write_at.result (state c.args.disk.now) (state c.write_at.new.self) (g.met.D.Disk.only_now c.args.disk.now)
    c.write_at.ensures.ends.time c.args.name.now own 0 c.args.bytes.now c.write_at.ensures.written c.write_at.ensures.crash)
    (apart_sync c.sync.result (state c.write_at.new.self) (state c.sync.new.self) (g.met.D.Disk.only_now c.write_at.new.self)
    c.sync.ensures.ends.time c.args.name.now own c.sync.ensures.files c.sync.ensures.crash)
