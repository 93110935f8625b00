-- The copy after a look whether the control is there.
use Rattle.std.proofs.Common.{None, Err, ℕ, subst}
use Rattle.repl_clone.proofs.Copies.{asked_quiet, done_past, known_past, moments_past, reads_past}
use Rattle.repl_disk.specs.Answers.{OnlyWhereThere}
use Rattle.repl_disk.specs.declared.disk.DiskError.{DiskError}
use Rattle.repl_store.specs.Durable.{control_name}
use Rattle.repl_store.proofs.Apart.{apart_itself, apart_on, apart_query}
use Rattle.repl_clone.proofs.copy.copy_store.Goals as goal

pub returns-in-Ok-clause-moments : goal.returns-in-Ok-clause-moments
returns-in-Ok-clause-moments g c =
    asked_quiet (g.E.Disk.state c.args.from.now.disk) c.args.from.now.head (g.D.Disk.state c.args.disk.now) (g.D.Disk.state c.size.new.self)
    (g.met.D.Disk.only_now c.args.disk.now) c.size.ensures.crash c.size.ensures.ends.time

pub returns-in-Err-Failed-clause-moments : goal.returns-in-Err-Failed-clause-moments
returns-in-Err-Failed-clause-moments g c =
    asked_quiet (g.E.Disk.state c.args.from.now.disk) c.args.from.now.head (g.D.Disk.state c.args.disk.now) (g.D.Disk.state c.size.new.self)
    (g.met.D.Disk.only_now c.args.disk.now) c.size.ensures.crash c.size.ensures.ends.time

pub returns-in-Err-Memory-clause-moments : goal.returns-in-Err-Memory-clause-moments
returns-in-Err-Memory-clause-moments g c =
    asked_quiet (g.E.Disk.state c.args.from.now.disk) c.args.from.now.head (g.D.Disk.state c.args.disk.now) (g.D.Disk.state c.size.new.self)
    (g.met.D.Disk.only_now c.args.disk.now) c.size.ensures.crash c.size.ensures.ends.time

pub returns-in-Err-Missing-clause-done : goal.returns-in-Err-Missing-clause-done
returns-in-Err-Missing-clause-done g c =
    let state = g.D.Disk.state in
    let There : DiskError → Type 0 = λ e. OnlyWhereThere {A = ℕ} (state c.args.disk.now).files control_name (Err e) in
    done_past (g.E.Disk.state c.args.from.now.disk) c.args.from.now.head (state c.args.disk.now) (state c.size.new.self)
    (state c.copy_files.new.disk) c.size.ensures.files c.size.ensures.crash c.copy_files.result
    (subst There c.in-Err-Missing.field-0-is c.in-Err-Missing.ensures.there) c.copy_files.ensures.copied

pub returns-in-Err-Missing-clause-reads : goal.returns-in-Err-Missing-clause-reads
returns-in-Err-Missing-clause-reads g c =
    let state = g.D.Disk.state in
    reads_past (g.E.Disk.state c.args.from.now.disk) c.args.from.now.head (state c.args.disk.now) (state c.size.new.self)
    (state c.copy_files.new.disk) c.size.ensures.files c.size.ensures.crash
    (g.met.D.Disk.never_falls c.size.new.self c.copy_files.new.disk c.copy_files.ensures.keeps).tells
    (g.met.D.Disk.as_it_reads c.copy_files.new.disk) c.copy_files.result c.copy_files.ensures.copied

pub returns-in-Err-Missing-clause-known : goal.returns-in-Err-Missing-clause-known
returns-in-Err-Missing-clause-known g c s known backs heard =
    let state = g.D.Disk.state in
    known_past (g.E.Disk.state c.args.from.now.disk) c.args.from.now.head (state c.args.disk.now) (state c.size.new.self)
    (state c.copy_files.new.disk) c.size.ensures.files c.size.ensures.crash
    (g.met.D.Disk.never_falls c.size.new.self c.copy_files.new.disk c.copy_files.ensures.keeps).tells
    (g.met.D.Disk.as_it_reads c.copy_files.new.disk) c.copy_files.result s known backs heard c.copy_files.ensures.copied

pub returns-in-Err-Missing-clause-moments : goal.returns-in-Err-Missing-clause-moments
returns-in-Err-Missing-clause-moments g c =
    let state = g.D.Disk.state in
    moments_past (g.E.Disk.state c.args.from.now.disk) c.args.from.now.head (state c.args.disk.now) (state c.size.new.self)
    (state c.copy_files.new.disk) c.size.ensures.files c.size.ensures.crash (g.met.D.Disk.only_now c.args.disk.now) c.size.ensures.ends.time
    c.copy_files.ensures.moments

pub returns-in-Ok-clause-apart : goal.returns-in-Ok-clause-apart
returns-in-Ok-clause-apart g c =
    apart_query (g.D.Disk.state c.args.disk.now) (g.D.Disk.state c.size.new.self) (g.met.D.Disk.only_now c.args.disk.now) c.size.ensures.files
    c.size.ensures.crash c.size.ensures.ends.time

pub returns-in-Ok-clause-source_apart : goal.returns-in-Ok-clause-source_apart
returns-in-Ok-clause-source_apart g c = apart_itself (g.E.Disk.state c.args.from.now.disk) (g.met.E.Disk.only_now c.args.from.now.disk)

pub returns-in-Err-Failed-clause-apart : goal.returns-in-Err-Failed-clause-apart
returns-in-Err-Failed-clause-apart g c =
    apart_query (g.D.Disk.state c.args.disk.now) (g.D.Disk.state c.size.new.self) (g.met.D.Disk.only_now c.args.disk.now) c.size.ensures.files
    c.size.ensures.crash c.size.ensures.ends.time

pub returns-in-Err-Failed-clause-source_apart : goal.returns-in-Err-Failed-clause-source_apart
returns-in-Err-Failed-clause-source_apart g c = apart_itself (g.E.Disk.state c.args.from.now.disk) (g.met.E.Disk.only_now c.args.from.now.disk)

pub returns-in-Err-Memory-clause-apart : goal.returns-in-Err-Memory-clause-apart
returns-in-Err-Memory-clause-apart g c =
    apart_query (g.D.Disk.state c.args.disk.now) (g.D.Disk.state c.size.new.self) (g.met.D.Disk.only_now c.args.disk.now) c.size.ensures.files
    c.size.ensures.crash c.size.ensures.ends.time

pub returns-in-Err-Memory-clause-source_apart : goal.returns-in-Err-Memory-clause-source_apart
returns-in-Err-Memory-clause-source_apart g c = apart_itself (g.E.Disk.state c.args.from.now.disk) (g.met.E.Disk.only_now c.args.from.now.disk)

pub returns-in-Err-Missing-clause-apart : goal.returns-in-Err-Missing-clause-apart
returns-in-Err-Missing-clause-apart g c =
    let state = g.D.Disk.state in
    apart_on (state c.args.disk.now) (state c.size.new.self) (state c.copy_files.new.disk)
    (apart_query (state c.args.disk.now) (state c.size.new.self) (g.met.D.Disk.only_now c.args.disk.now) c.size.ensures.files
    c.size.ensures.crash c.size.ensures.ends.time) c.copy_files.ensures.apart
