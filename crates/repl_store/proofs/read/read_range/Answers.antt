-- The log is read piece by piece.
use Rattle.std.proofs.Common.{rules, ◌≡◌, ◌≤◌, ◌-◌, ℕ, length, take, drop, Result, Ok, Err, arith, sym, ◌∙◌, subst, length-drop}
use Rattle.std.proofs.lemmas.List.{length-take}
use borrow.Rule.Slice.PartMut.{put_mid, same_len_mid}
use Rattle.repl_store.specs.Backing.{Reads}
use Rattle.repl_store.specs.declared.fault.StoreFault.{StoreFault}
use Rattle.repl_store.proofs.Asking.{reads_then}
use Rattle.repl_store.proofs.Reading.{filled_err, filled_more}
use Rattle.repl_store.proofs.read.read_range.Goals as goal

pub returns-in_err-read_piece-clause-reads : goal.returns-in_err-read_piece-clause-reads
returns-in_err-read_piece-clause-reads g c s backs =
    let state = g.D.Disk.state in
    let head = c.args.head.now in
    let so_far = c.loop-filled.invariant.5 s backs in
    let part = take (c.next_piece-place.result.1 - c.loop-filled.filled) (drop c.loop-filled.filled c.loop-filled.room) in
    let e = c.in_err-read_piece.field-0.0 in
    let P : ℕ → Type 0 = λ n. Reads {A = Unit {0}} (Err e) (state c.loop-filled.disk) (state c.read_piece.new.disk) head s n part c.read_piece.new.room in
    let reads = subst P c.next_piece-place.ensures.begin (c.in_err-read_piece.ensures.reads s so_far.backs) in
    let after = put_mid c.loop-filled.filled (c.next_piece-place.result.1 - c.loop-filled.filled) c.loop-filled.room c.read_piece.new.room in
    let is : c.from_residual.result ≡ Err e = search rules in
    let Q : Result (Unit {0}) StoreFault → Type 0 = λ r. Reads {A = Unit {0}} r (state c.args.disk.now) (state c.read_piece.new.disk) head s c.args.at c.args.room.now after in
    subst Q (sym is) (filled_err (state c.args.disk.now) (state c.loop-filled.disk) (state c.read_piece.new.disk) head s c.args.at c.loop-filled.filled
    c.loop-filled.room c.read_piece.new.room so_far part c.args.room.now after e reads)

pub loop-filled-preserved : goal.loop-filled-preserved
loop-filled-preserved g c =
    let state = g.D.Disk.state in
    let head = c.args.head.now in
    let end = c.next_piece-place.result.1 in
    let filled = c.loop-filled.filled in
    let part = take (end - filled) (drop filled c.loop-filled.room) in
    let above : filled ≤ end = omega (arith, c.next_piece-place.ensures.end.0) in
    let inside : end ≤ length c.loop-filled.room = omega (arith, c.next_piece-place.ensures.end.1) in
    let part_size : length part ≡ end - filled = omega (arith, length-take (end - filled) (drop filled c.loop-filled.room), length-drop filled c.loop-filled.room, above, inside) in
    let size : length c.read_piece.new.room ≡ end - filled = c.in_ok-read_piece.ensures.size ∙ part_size in
    let same_size = same_len_mid filled (end - filled) c.loop-filled.room c.read_piece.new.room c.in_ok-read_piece.ensures.size in (
      same_size ∙ c.loop-filled.invariant.0,
      omega (arith, inside, same_size),
      c.in_ok-read_piece.ensures.caused.ok.0 ∙ c.loop-filled.invariant.2,
      c.in_ok-read_piece.ensures.caused.ok.1 ∙ c.loop-filled.invariant.3,
      g.met.D.Disk.keeps_on c.args.disk.now c.loop-filled.disk c.read_piece.new.disk c.loop-filled.invariant.4 c.in_ok-read_piece.ensures.keeps,
      λ s backs.
          let so_far = c.loop-filled.invariant.5 s backs in
          let P : ℕ → Type 0 = λ n. Reads {A = Unit {0}} (Ok tt) (state c.loop-filled.disk) (state c.read_piece.new.disk) head s n part c.read_piece.new.room in
          let reads = subst P c.next_piece-place.ensures.begin (c.in_ok-read_piece.ensures.reads s so_far.backs) in
          filled_more (state c.args.disk.now) (state c.loop-filled.disk) (state c.read_piece.new.disk) head s c.args.at filled
          c.loop-filled.room c.read_piece.new.room so_far end part above inside size part_size c.requires.floor reads
          c.in_ok-read_piece.ensures.caused.ok.0,
      reads_then (state c.args.disk.now) (state c.loop-filled.disk) (state c.read_piece.new.disk) c.loop-filled.invariant.6
          c.in_ok-read_piece.ensures.only,
    )
