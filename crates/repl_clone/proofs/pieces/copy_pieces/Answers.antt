-- Piece by piece the file fills.
use Rattle.std.proofs.Common.{rules, ◌≡◌, ◌+◌, ◌-◌, ◌<◌, ◌≤◌, ℕ, List, length, take, min, Result, Ok, Err, arith, sym, ap, subst}
use Rattle.std.proofs.lemmas.List.{length-take}
use Rattle.repl_clone.specs.Causes.{FromSource}
use Rattle.repl_clone.specs.Copying.{Begins, log_part}
use Rattle.repl_clone.specs.declared.fault.CopyFault.{CopyFault}
use Rattle.repl_clone.proofs.Causing.{disk_after}
use Rattle.repl_clone.proofs.Changing.{changes_then}
use Rattle.repl_clone.proofs.Filling.{filled_more, piece_is, there_then}
use Rattle.repl_clone.proofs.Sourcing.{then}
use Rattle.repl_disk.specs.Folder.{Became, IfTold, written}
use Rattle.repl_store.specs.Backing.{Backs}
use Rattle.repl_store.specs.Head.{Head}
use Rattle.repl_store.proofs.Backed.{log_end}
use Rattle.repl_clone.proofs.pieces.copy_pieces.Goals as goal

pub returns-in_err-copy_piece-clause-changes : goal.returns-in_err-copy_piece-clause-changes
returns-in_err-copy_piece-clause-changes g c =
    let state = g.D.Disk.state in
    let named : List ℕ → Type 0 = λ other. other ≡ c.args.name.now in
    changes_then named named named (state c.args.disk.now) (state c.loop-at.disk) (state c.copy_piece.new.disk) (λ n one. one) (λ n one. one)
    c.loop-at.invariant.changes c.in_err-copy_piece.ensures.changes

pub returns-in_err-copy_piece-clause-source : goal.returns-in_err-copy_piece-clause-source
returns-in_err-copy_piece-clause-source g c =
    let state = g.E.Disk.state in
    let old = c.args.from.now in
    let mid = c.loop-at.from in
    let new = c.copy_piece.new.from in
    let e : CopyFault = c.in_err-copy_piece.field-0.0 in
    let is : c.from_residual.result ≡ Err e = search rules in
    let P : Result (Unit {0}) CopyFault → Type 0 = λ r. FromSource r (state old.disk) (state new.disk) old.head new.head old.broken new.broken in
    subst P (sym is) (then {A = Unit {0}} {B = Unit {0}} tt (Err e) (state old.disk) (state mid.disk) (state new.disk) old.head mid.head new.head
    old.broken mid.broken new.broken (g.met.E.Disk.never_falls old.disk mid.disk c.loop-at.invariant.source_keeps) c.loop-at.invariant.source
    c.in_err-copy_piece.ensures.source)

pub loop-at-preserved : goal.loop-at-preserved
loop-at-preserved g c =
    let state = g.E.Disk.state in
    let disk = g.D.Disk.state in
    let old = c.args.from.now in
    let mid = c.loop-at.from in
    let new = c.copy_piece.new.from in
    let was = c.loop-at.invariant in
    let on = c.in_ok-copy_piece.ensures in
    let at = c.loop-at.at in
    let count = c.min-count.result in
    let room = take count c.loop-at.room in
    let name = c.args.name.now in
    let named : List ℕ → Type 0 = λ other. other ≡ name in
    let few : count ≤ length c.loop-at.room = omega (arith, c.min-count.ensures) in
    let place : c.start.inside.0 ≡ c.args.start = c.start.view_is in
    let Written : ℕ → Type 0 = λ start. Became (disk c.loop-at.disk).files (disk c.copy_piece.new.disk).files
    (λ f. written f name (at - start) c.copy_piece.new.room) in
    let within : at + count ≤ c.args.end = omega (arith, c.min-count.ensures) in
    let long : length room ≡ count = omega (arith, length-take count c.loop-at.room, few) in
    record {
      above = omega (arith, was.above);
      within = within;
      changes = changes_then named named named (disk c.args.disk.now) (disk c.loop-at.disk) (disk c.copy_piece.new.disk) (λ n one. one)
          (λ n one. one) was.changes on.changes;
      written = λ s backs.
          let floor = old.head.control.floor in
          let here : Backs (state mid.disk) mid.head s = subst (λ (h : Head). Backs (state mid.disk) h s) (sym was.source.head_stays)
          ((was.source.lasts s backs).backs (λ e. absurd cc)) in
          let piece = piece_is floor mid.head.control.floor at count s room c.copy_piece.new.room
          (ap (λ (h : Head). h.control.floor) was.source.head_stays) long (on.read s here) in
          filled_more (disk c.loop-at.disk).files (disk c.copy_piece.new.disk).files floor c.args.start at (at + count) s name
          c.copy_piece.new.room c.requires.floor was.above (omega arith)
          (omega (arith, within, c.requires.end, log_end (state old.disk) old.head s backs)) piece (subst Written place on.written) (was.written s backs);
      there = λ some. there_then (disk c.loop-at.disk).files (disk c.copy_piece.new.disk).files name (at - c.start.inside.0) c.copy_piece.new.room
          on.written;
      source = then {A = Unit {0}} {B = Unit {0}} tt (Ok tt) (state old.disk) (state mid.disk) (state new.disk) old.head mid.head new.head
          old.broken mid.broken new.broken (g.met.E.Disk.never_falls old.disk mid.disk was.source_keeps) was.source on.source;
      of_disk = disk_after {A = Unit {0}} {B = Unit {0}} tt (Ok tt) (disk c.args.disk.now) (disk c.loop-at.disk) (disk c.copy_piece.new.disk)
          (g.met.D.Disk.never_falls c.args.disk.now c.loop-at.disk was.keeps) was.of_disk on.of_disk;
      keeps = g.met.D.Disk.keeps_on c.args.disk.now c.loop-at.disk c.copy_piece.new.disk was.keeps on.keeps;
      source_keeps = g.met.E.Disk.keeps_on old.disk mid.disk new.disk was.source_keeps on.source_keeps;
    }

pub returns-clause-written : goal.returns-clause-written
returns-clause-written g c s backs =
    let was = c.loop-at.invariant in
    let floor = c.args.from.now.head.control.floor in
    let name = c.args.name.now in
    let end : c.loop-at.at ≡ c.args.end = omega (arith, was.within, c.loop-at-test.false) in
    let P : ℕ → Type 0 = λ to. IfTold (g.D.Disk.state c.loop-at.disk).files (λ folder. Begins (log_part floor s c.args.start to) (folder name)) in
    subst P end (was.written s backs)
