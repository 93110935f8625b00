-- Segment by segment the files come to carry the log.
use Rattle.std.proofs.Common.{rules, ◌≡◌, ◌+◌, ◌*◌, ◌/◌, ◌%◌, ◌<◌, ◌≤◌, ◌⊎◌, min, ℕ, List, Result, Ok, Err, arith, sym, ap, ◌∙◌, subst, inl, inr, ⊎_elim}
use Rattle.std.proofs.lemmas.Nat.{div-add-mod'}
use Rattle.repl_clone.specs.Causes.{FromSource}
use Rattle.repl_clone.specs.Copying.{Begins, ChangesOnly, HasLog, OfSegment, log_part}
use Rattle.repl_clone.specs.declared.fault.CopyFault.{CopyFault}
use Rattle.repl_clone.proofs.Causing.{disk_after, disk_still}
use Rattle.repl_clone.proofs.Changing.{changes_none, changes_then}
use Rattle.repl_clone.proofs.Filling.{any_told, has_none, next_whole, segment_more}
use Rattle.repl_clone.proofs.Sourcing.{still, then}
use Rattle.repl_disk.specs.Folder.{Folder, IfTold}
use Rattle.repl_store.specs.Backing.{Backs}
use Rattle.repl_store.specs.Durable.{segment_file}
use Rattle.repl_store.specs.Head.{Head}
use Rattle.repl_store.specs.declared.store.StoreStatus.{StoreStatus}
use Rattle.repl_store.proofs.Names.{fits_at}
use Rattle.repl_store.proofs.Standing.{names_of_head}
use Rattle.repl_clone.proofs.segments.copy_segments.Goals as goal

pub loop-at-init : goal.loop-at-init
loop-at-init g c =
    let head = c.args.from.now.head in
    let right = c.status-status.ensures.right in
    let told = c.status.view_is ∙ c.status-status.ensures.told in
    let floor = ap (λ (t : StoreStatus). t.floor) told in
    record {
      above = omega (arith, floor);
      within = omega (arith, floor, right.right.floor.2, right.right.whole.2, div-add-mod' head.control.whole head.size);
      whole = inl (ap (λ (n : ℕ). n % head.size) floor ∙ right.right.floor.0);
      changes = changes_none (OfSegment head.size head.path) (g.D.Disk.state c.args.disk.now) (g.met.D.Disk.only_now c.args.disk.now);
      copied = λ s backs. any_told (g.D.Disk.state c.args.disk.now).files
          (λ folder. (image : Folder) → (g.D.Disk.state c.args.disk.now).may_leave image
          → HasLog head.size head.path head.control.floor s c.status.inside.0.1.1.1.0.0 image)
          (λ folder image left. subst (λ (at : ℕ). HasLog head.size head.path head.control.floor s at image) (sym floor)
          (has_none head.size head.path head.control.floor s image));
      source = still {A = Unit {0}} (Ok tt) (g.E.Disk.state c.args.from.now.disk) head c.args.from.now.broken
          (g.met.E.Disk.only_now c.args.from.now.disk) (λ e. absurd cc);
      of_disk = disk_still {A = Unit {0}} (Ok tt) (g.D.Disk.state c.args.disk.now) (λ e. absurd cc);
      keeps = g.met.D.Disk.keeps_itself c.args.disk.now;
      source_keeps = g.met.E.Disk.keeps_itself c.args.from.now.disk;
    }

pub returns-in_err-copy_segment-clause-changes : goal.returns-in_err-copy_segment-clause-changes
returns-in_err-copy_segment-clause-changes g c =
    let state = g.D.Disk.state in
    let head = c.args.from.now.head in
    let at = c.loop-at.at in
    let was = c.loop-at.invariant in
    let right = c.status-status.ensures.right in
    let Only : Head → Type 0 = λ h. IfTold (state c.loop-at.disk).files (λ folder. ChangesOnly
    (λ other. other ≡ segment_file h.size h.path (at / h.size)) (state c.loop-at.disk) (state c.copy_segment.new.disk) folder) in
    changes_then (OfSegment head.size head.path) (λ (other : List ℕ). other ≡ segment_file head.size head.path (at / head.size))
    (OfSegment head.size head.path) (state c.args.disk.now) (state c.loop-at.disk) (state c.copy_segment.new.disk) (λ n one. one)
    (λ n one. (at / head.size, fits_at head.size at (omega (arith, was.within, right.right.flushed.1)), one)) was.changes
    (subst Only was.source.head_stays c.in_err-copy_segment.ensures.changes)

pub returns-in_err-copy_segment-clause-source : goal.returns-in_err-copy_segment-clause-source
returns-in_err-copy_segment-clause-source g c =
    let state = g.E.Disk.state in
    let old = c.args.from.now in
    let mid = c.loop-at.from in
    let new = c.copy_segment.new.from in
    let e : CopyFault = c.in_err-copy_segment.field-0.0 in
    let is : c.from_residual.result ≡ Err e = search rules in
    let P : Result (Unit {0}) CopyFault → Type 0 = λ r. FromSource r (state old.disk) (state new.disk) old.head new.head old.broken new.broken in
    subst P (sym is) (then {A = Unit {0}} {B = Unit {0}} tt (Err e) (state old.disk) (state mid.disk) (state new.disk) old.head mid.head new.head
    old.broken mid.broken new.broken (g.met.E.Disk.never_falls old.disk mid.disk c.loop-at.invariant.source_keeps) c.loop-at.invariant.source
    c.in_err-copy_segment.ensures.source)

pub loop-at-preserved : goal.loop-at-preserved
loop-at-preserved g c =
    let state = g.E.Disk.state in
    let disk = g.D.Disk.state in
    let old = c.args.from.now in
    let head = old.head in
    let mid = c.loop-at.from in
    let new = c.copy_segment.new.from in
    let was = c.loop-at.invariant in
    let on = c.in_ok-copy_segment.ensures in
    let at = c.loop-at.at in
    let to = c.min-end.result in
    let right = c.status-status.ensures.right in
    let told = c.status.view_is ∙ c.status-status.ensures.told in
    let flushed = ap (λ (t : StoreStatus). t.flushed) told in
    let sized : c.from-size.result ≡ head.size = c.from-size.ensures ∙ c.bytes.ensures.value ∙ ap (λ (t : StoreStatus). t.ident.size) told in
    let least : to ≡ min head.control.flushed (at + head.size) = omega (arith, c.min-end.ensures, flushed, sized) in
    let below : at < head.control.flushed = omega (arith, c.loop-at-test.true, flushed) in
    let whole : at % head.size ≡ 0 = ⊎_elim (λ (w : at % head.size ≡ 0). w) (λ (end : at ≡ head.control.flushed). absurd (omega (arith, end, below))) was.whole in
    let small : at < head.control.flushed = below in
    let file = segment_file head.size head.path (at / head.size) in
    let Only : Head → Type 0 = λ h. IfTold (disk c.loop-at.disk).files (λ folder. ChangesOnly
    (λ other. other ≡ segment_file h.size h.path (at / h.size)) (disk c.loop-at.disk) (disk c.copy_segment.new.disk) folder) in
    let only = subst Only was.source.head_stays on.changes in
    record {
      above = omega (arith, was.above, least, below);
      within = omega (arith, least);
      whole = next_whole head.size at to head.control.flushed whole least;
      changes = changes_then (OfSegment head.size head.path) (λ (other : List ℕ). other ≡ file) (OfSegment head.size head.path)
          (disk c.args.disk.now) (disk c.loop-at.disk) (disk c.copy_segment.new.disk) (λ n one. one)
          (λ n one. (at / head.size, fits_at head.size at (omega (arith, below, right.right.flushed.1)), one)) was.changes only;
      copied = λ s backs.
          let here : Backs (state mid.disk) mid.head s = subst (λ (h : Head). Backs (state mid.disk) h s) (sym was.source.head_stays)
          ((was.source.lasts s backs).backs (λ e. absurd cc)) in
          let Fronts : Head → Type 0 = λ h. IfTold (disk c.loop-at.disk).files (λ folder. (image : Folder)
          → (disk c.copy_segment.new.disk).may_leave image
          → Begins (log_part h.control.floor s at to) (image (segment_file h.size h.path (at / h.size)))) in
          segment_more head.size head.path head.control.floor at to s (OfSegment head.size head.path) (disk c.args.disk.now) (disk c.loop-at.disk)
          (disk c.copy_segment.new.disk) (names_of_head head right) whole was.above (omega (arith, least, below)) (omega (arith, least))
          (omega (arith, least, backs.counted)) (omega (arith, least, right.right.flushed.1)) was.changes only (was.copied s backs)
          (subst Fronts was.source.head_stays (on.copied s here));
      source = then {A = Unit {0}} {B = Unit {0}} tt (Ok tt) (state old.disk) (state mid.disk) (state new.disk) old.head mid.head new.head
          old.broken mid.broken new.broken (g.met.E.Disk.never_falls old.disk mid.disk was.source_keeps) was.source on.source;
      of_disk = disk_after {A = Unit {0}} {B = Unit {0}} tt (Ok tt) (disk c.args.disk.now) (disk c.loop-at.disk) (disk c.copy_segment.new.disk)
          (g.met.D.Disk.never_falls c.args.disk.now c.loop-at.disk was.keeps) was.of_disk on.of_disk;
      keeps = g.met.D.Disk.keeps_on c.args.disk.now c.loop-at.disk c.copy_segment.new.disk was.keeps on.keeps;
      source_keeps = g.met.E.Disk.keeps_on old.disk mid.disk new.disk was.source_keeps on.source_keeps;
    }

pub returns-clause-copied : goal.returns-clause-copied
returns-clause-copied g c s backs =
    let head = c.args.from.now.head in
    let was = c.loop-at.invariant in
    let flushed = ap (λ (t : StoreStatus). t.flushed) (c.status.view_is ∙ c.status-status.ensures.told) in
    let end : c.loop-at.at ≡ head.control.flushed = omega (arith, was.within, c.loop-at-test.false, flushed) in
    let P : ℕ → Type 0 = λ to. IfTold (g.D.Disk.state c.args.disk.now).files (λ folder. (image : Folder)
    → (g.D.Disk.state c.loop-at.disk).may_leave image → HasLog head.size head.path head.control.floor s to image) in
    subst P end (was.copied s backs)
