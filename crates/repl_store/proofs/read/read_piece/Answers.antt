-- A piece of the log is read where the files carry it, and nothing changes.
use Rattle.std.proofs.Common.{◌≡◌, ◌/◌, Err, ℕ, sym, subst, arith, rules}
use Rattle.repl_disk.specs.Answers.{OnlyWhereThere}
use Rattle.repl_store.specs.Backing.{Reads}
use Rattle.repl_store.specs.declared.fault.StoreFault.{StoreFault}
use Rattle.repl_store.specs.Durable.{segment_file}
use Rattle.repl_store.proofs.Asking.{reads_query}
use Rattle.repl_store.proofs.Reading.{only_old, reads_ok, not_short, reads_err}
use Rattle.repl_store.proofs.read.read_piece.Goals as goal

pub returns-in-Ok-clause-reads : goal.returns-in-Ok-clause-reads
returns-in-Ok-clause-reads g c s backs =
    let old = g.D.Disk.state c.args.disk.now in
    let new = g.D.Disk.state c.read_at.new.self in
    let head = c.args.head.now in
    let only = only_old old new (g.met.D.Disk.only_now c.args.disk.now) c.read_at.ensures.crash c.read_at.ensures.ends.time in
    let named : c.deref.result.now ≡ segment_file head.size head.path (c.args.at / head.size) = search rules in
    reads_ok old new head s c.args.at c.args.room.now c.read_at.new.room backs c.read_at.ensures.files only c.read_at.ensures.crash
    c.requires.some c.requires.floor c.requires.end c.requires.inside c.deref.result.now c.place_in_segment-place.result named
    c.place_in_segment-place.ensures c.in-Ok.count c.in-Ok.ensures.read

pub returns-in-Ok-2-clause-reads : goal.returns-in-Ok-2-clause-reads
returns-in-Ok-2-clause-reads g c s backs =
    let old = g.D.Disk.state c.args.disk.now in
    let new = g.D.Disk.state c.read_at.new.self in
    let head = c.args.head.now in
    let only = only_old old new (g.met.D.Disk.only_now c.args.disk.now) c.read_at.ensures.crash c.read_at.ensures.ends.time in
    let named : c.deref.result.now ≡ segment_file head.size head.path (c.args.at / head.size) = search rules in
    not_short old new head s c.args.at c.args.room.now c.read_at.new.room backs c.read_at.ensures.files only c.read_at.ensures.crash
    c.requires.some c.requires.floor c.requires.end c.requires.inside c.deref.result.now c.place_in_segment-place.result named
    c.place_in_segment-place.ensures c.in-Ok-2.field-0 c.in-Ok-2.ensures.read (λ same. absurd (grind (arith, same, c.if-count-room.false)))

pub returns-clause-reads : goal.returns-clause-reads
returns-clause-reads g c s backs =
    let old = g.D.Disk.state c.args.disk.now in
    let new = g.D.Disk.state c.read_at.new.self in
    let head = c.args.head.now in
    let only = only_old old new (g.met.D.Disk.only_now c.args.disk.now) c.read_at.ensures.crash c.read_at.ensures.ends.time in
    let named : c.deref.result.now ≡ segment_file head.size head.path (c.args.at / head.size) = search rules in
    let there : OnlyWhereThere {A = ℕ} old.files c.deref.result.now (Err c.in-Err.error) = c.in-Err.ensures.there in
    let Goal : StoreFault → Type 0 = λ f. Reads {A = Unit {0}} (Err f) old new head s c.args.at c.args.room.now c.read_at.new.room in
    subst Goal (sym c.fault_of.ensures) (reads_err old new head s c.args.at c.args.room.now c.read_at.new.room backs c.read_at.ensures.files only c.read_at.ensures.crash
    c.requires.some c.requires.floor c.requires.end c.requires.inside c.deref.result.now c.place_in_segment-place.result named
    c.place_in_segment-place.ensures c.in-Err.error there c.in-Err.ensures.ends)

pub returns-in-Ok-clause-only : goal.returns-in-Ok-clause-only
returns-in-Ok-clause-only g c =
    reads_query (g.D.Disk.state c.args.disk.now) (g.D.Disk.state c.read_at.new.self) (g.met.D.Disk.only_now c.args.disk.now)
    c.read_at.ensures.files c.read_at.ensures.crash c.read_at.ensures.ends.time

pub returns-in-Ok-2-clause-only : goal.returns-in-Ok-2-clause-only
returns-in-Ok-2-clause-only g c =
    reads_query (g.D.Disk.state c.args.disk.now) (g.D.Disk.state c.read_at.new.self) (g.met.D.Disk.only_now c.args.disk.now)
    c.read_at.ensures.files c.read_at.ensures.crash c.read_at.ensures.ends.time

pub returns-clause-only : goal.returns-clause-only
returns-clause-only g c =
    reads_query (g.D.Disk.state c.args.disk.now) (g.D.Disk.state c.read_at.new.self) (g.met.D.Disk.only_now c.args.disk.now)
    c.read_at.ensures.files c.read_at.ensures.crash c.read_at.ensures.ends.time
