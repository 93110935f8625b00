-- The pieces are written, and then the file is synced.
use Rattle.std.proofs.Common.{rules, ◌≡◌, ◌/◌, ℕ, List, Result, Ok, Err, sym, ap, ◌∙◌, subst, string_bytes}
use Rattle.repl_clone.specs.Causes.{FromSource, IsOfDisk, fault_of}
use Rattle.repl_clone.specs.Copying.{log_part}
use Rattle.repl_clone.specs.declared.fault.CopyFault.{CopyFault}
use Rattle.repl_clone.specs.declared.fault.CopyFault.TheVariants as fault
use Rattle.repl_clone.proofs.Causing.{apart, disk_after, fault_not_of_source, sync_refused}
use Rattle.repl_clone.proofs.Changing.{changes_none, changes_then, changes_wider, synced}
use Rattle.repl_clone.proofs.Filling.{named_by, synced_begins}
use Rattle.repl_clone.proofs.Sourcing.{still, then}
use Rattle.repl_store.specs.Durable.{segment_file}
use Rattle.repl_store.specs.declared.store.StoreStatus.{StoreStatus}
use Rattle.repl_clone.proofs.segments.copy_segment.Goals as goal

pub returns-in_err-name-clause-changes : goal.returns-in_err-name-clause-changes
returns-in_err-name-clause-changes g c =
    let head = c.args.from.now.head in
    changes_none (λ (other : List ℕ). other ≡ segment_file head.size head.path (c.args.start / head.size)) (g.D.Disk.state c.args.disk.now)
    (g.met.D.Disk.only_now c.args.disk.now)

pub returns-in_err-copy_pieces-clause-changes : goal.returns-in_err-copy_pieces-clause-changes
returns-in_err-copy_pieces-clause-changes g c =
    let head = c.args.from.now.head in
    let file = segment_file head.size head.path (c.args.start / head.size) in
    let sized = ap (λ (t : StoreStatus). t.ident.size) c.status-size.ensures.told in
    let named : c.deref.result.now ≡ file = named_by head.size c.status-size.result.ident.size c.args.start c.seg_of.result head.path
    c.args.history.now (string_bytes c.in_ok-name.name) c.deref.result.now (search rules) c.in_ok-name.ensures.value c.seg_of.ensures.value sized
    c.requires.history in
    changes_wider (λ (other : List ℕ). other ≡ c.deref.result.now) (λ (other : List ℕ). other ≡ file) (g.D.Disk.state c.args.disk.now)
    (g.D.Disk.state c.copy_pieces.new.disk) (λ n one. one ∙ named) c.in_err-copy_pieces.ensures.changes

pub returns-in-Ok-clause-changes : goal.returns-in-Ok-clause-changes
returns-in-Ok-clause-changes g c =
    let state = g.D.Disk.state in
    let head = c.args.from.now.head in
    let mid = c.copy_pieces.new.disk in
    let file = segment_file head.size head.path (c.args.start / head.size) in
    let sized = ap (λ (t : StoreStatus). t.ident.size) c.status-size.ensures.told in
    let named : c.deref.result.now ≡ file = named_by head.size c.status-size.result.ident.size c.args.start c.seg_of.result head.path
    c.args.history.now (string_bytes c.in_ok-name.name) c.deref.result.now (search rules) c.in_ok-name.ensures.value c.seg_of.ensures.value sized
    c.requires.history in
    let one : c.deref-2.result.now ≡ c.deref.result.now = search rules in
    changes_then (λ (other : List ℕ). other ≡ c.deref.result.now) (λ (other : List ℕ). other ≡ c.deref-2.result.now) (λ (other : List ℕ). other ≡ file)
    (state c.args.disk.now) (state mid) (state c.sync.new.self) (λ n is. is ∙ named) (λ n is. is ∙ one ∙ named)
    c.in_ok-copy_pieces.ensures.changes
    (synced c.sync.result c.deref-2.result.now (state mid) (state c.sync.new.self) (g.met.D.Disk.only_now mid) c.sync.ensures.ends.time
    c.sync.ensures.files c.sync.ensures.crash)

pub returns-in-Ok-clause-copied : goal.returns-in-Ok-clause-copied
returns-in-Ok-clause-copied g c s backs =
    let state = g.D.Disk.state in
    let head = c.args.from.now.head in
    let file = segment_file head.size head.path (c.args.start / head.size) in
    let sized = ap (λ (t : StoreStatus). t.ident.size) c.status-size.ensures.told in
    let named : c.deref.result.now ≡ file = named_by head.size c.status-size.result.ident.size c.args.start c.seg_of.result head.path
    c.args.history.now (string_bytes c.in_ok-name.name) c.deref.result.now (search rules) c.in_ok-name.ensures.value c.seg_of.ensures.value sized
    c.requires.history in
    let one : c.deref-2.result.now ≡ c.deref.result.now = search rules in
    synced_begins (λ (other : List ℕ). other ≡ c.deref.result.now) (state c.args.disk.now) (state c.copy_pieces.new.disk) (state c.sync.new.self)
    c.deref.result.now c.deref-2.result.now file (log_part head.control.floor s c.args.start c.args.end) named (one ∙ named)
    c.in_ok-copy_pieces.ensures.changes (c.in_ok-copy_pieces.ensures.written s backs) c.in-Ok.ensures.crash

pub returns-clause-changes : goal.returns-clause-changes
returns-clause-changes g c =
    let state = g.D.Disk.state in
    let head = c.args.from.now.head in
    let mid = c.copy_pieces.new.disk in
    let file = segment_file head.size head.path (c.args.start / head.size) in
    let sized = ap (λ (t : StoreStatus). t.ident.size) c.status-size.ensures.told in
    let named : c.deref.result.now ≡ file = named_by head.size c.status-size.result.ident.size c.args.start c.seg_of.result head.path
    c.args.history.now (string_bytes c.in_ok-name.name) c.deref.result.now (search rules) c.in_ok-name.ensures.value c.seg_of.ensures.value sized
    c.requires.history in
    let one : c.deref-2.result.now ≡ c.deref.result.now = search rules in
    changes_then (λ (other : List ℕ). other ≡ c.deref.result.now) (λ (other : List ℕ). other ≡ c.deref-2.result.now) (λ (other : List ℕ). other ≡ file)
    (state c.args.disk.now) (state mid) (state c.sync.new.self) (λ n is. is ∙ named) (λ n is. is ∙ one ∙ named)
    c.in_ok-copy_pieces.ensures.changes
    (synced c.sync.result c.deref-2.result.now (state mid) (state c.sync.new.self) (g.met.D.Disk.only_now mid) c.sync.ensures.ends.time
    c.sync.ensures.files c.sync.ensures.crash)

pub returns-clause-source : goal.returns-clause-source
returns-clause-source g c =
    let state = g.E.Disk.state in
    let old = c.args.from.now in
    let new = c.copy_pieces.new.from in
    let P : CopyFault → Type 0 = λ f. FromSource {A = Unit {0}} (Err f) (state old.disk) (state new.disk) old.head new.head old.broken new.broken in
    let e = c.in-Err.error in
    subst P (sym c.fault_of.ensures) (then {A = Unit {0}} {B = Unit {0}} tt (Err (fault_of e)) (state old.disk) (state new.disk) (state new.disk)
    old.head new.head new.head old.broken new.broken new.broken (g.met.E.Disk.never_falls old.disk new.disk c.in_ok-copy_pieces.ensures.source_keeps)
    c.in_ok-copy_pieces.ensures.source (still {A = Unit {0}} (Err (fault_of e)) (state new.disk) new.head new.broken (g.met.E.Disk.only_now new.disk)
    (apart (fault_of e) fault.SourceFault (fault_not_of_source e))))

pub returns-clause-of_disk : goal.returns-clause-of_disk
returns-clause-of_disk g c =
    let state = g.D.Disk.state in
    let mid = c.copy_pieces.new.disk in
    let on = c.in_ok-copy_pieces.ensures in
    let e = c.in-Err.error in
    let one : c.deref.result.now ≡ c.deref-2.result.now = search rules in
    let P : CopyFault → Type 0 = λ f. IsOfDisk {A = Unit {0}} (Err f) (state c.args.disk.now) (state c.sync.new.self) in
    subst P (sym c.fault_of.ensures) (disk_after {A = Unit {0}} {B = Unit {0}} tt (Err (fault_of e)) (state c.args.disk.now) (state mid)
    (state c.sync.new.self) (g.met.D.Disk.never_falls c.args.disk.now mid on.keeps) on.of_disk
    (sync_refused e c.deref.result.now c.deref-2.result.now (state mid) (state c.sync.new.self) one (on.there c.requires.order)
    c.in-Err.ensures.there c.in-Err.ensures.ends))
