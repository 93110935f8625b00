-- Piece by piece.
use Rattle.std.proofs.Common.{rules, ◌≡◌, ◌≤◌, ◌+◌, ◌-◌, ℕ, List, length, take, drop, Err, arith, refl, ◌∙◌, subst, length-drop}
use Rattle.std.proofs.lemmas.List.{length-take}
use Rattle.repl_store.specs.Backing.{Before, State, appended}
use Rattle.repl_store.specs.Head.{IsAt}
use Rattle.repl_store.specs.Tail.{SomeAppended}
use Rattle.repl_store.specs.declared.fault.StoreFault.{StoreFault}
use Rattle.repl_store.proofs.Apart.{apart_on}
use Rattle.repl_store.proofs.Chaining.{comes_after, refused_on}
use Rattle.repl_store.proofs.Pieces.{at_more, reached_all, reached_more}
use Rattle.repl_store.proofs.write.write_pieces.Goals as goal

pub returns-in_err-write_piece-clause-comes : goal.returns-in_err-write_piece-clause-comes
returns-in_err-write_piece-clause-comes g c = λ s backs.
    let state = g.D.Disk.state in
    let n = c.loop-done.done in
    let bytes = c.args.bytes.now in
    let so_far = c.loop-done.invariant.reached s backs in
    let t : State = appended s (take n bytes) in
    let part : List ℕ = take (c.min-end.result - n) (drop n bytes) in
    let e : StoreFault = c.in_err-write_piece.field-0.0 in
    let is : c.from_residual.result ≡ Err e = search rules in
    let stays : IsAt c.loop-done.head c.write_piece.new.head c.loop-done.head.written = c.in_err-write_piece.ensures.stays in
    let whole = comes_after (Err e) (state c.args.disk.now) (state c.loop-done.disk) (state c.write_piece.new.disk) c.loop-done.head
    c.write_piece.new.head (Before s) (appended t part) (λ u. u ≡ t) so_far.moments stays.same_size c.loop-done.invariant.faults
    (c.in_err-write_piece.ensures.comes t so_far.backs) in
    refused_on (Err e) c.from_residual.result e (state c.args.disk.now) (state c.write_piece.new.disk) c.write_piece.new.head (Before s)
    (Before s) (appended t part) (appended s bytes) (λ u. u ≡ t) (SomeAppended s) refl is (λ d h. h) (λ u h. (take n bytes, h)) whole

pub loop-done-preserved : goal.loop-done-preserved
loop-done-preserved g c =
    let state = g.D.Disk.state in
    let n = c.loop-done.done in
    let m = c.min-end.result in
    let bytes = c.args.bytes.now in
    let part : List ℕ = take (m - n) (drop n bytes) in
    let above : n ≤ m = omega (arith, c.min-end.ensures) in
    let inside : m ≤ length bytes = omega (arith, c.min-end.ensures) in
    let grows : IsAt c.loop-done.head c.write_piece.new.head (c.loop-done.head.written + length part) = c.in_ok-write_piece.ensures.ok in
    let end : c.loop-done.head.written + length part ≡ c.args.head.now.written + m = omega (
      arith,
      length-take (m - n) (drop n bytes),
      length-drop n bytes,
      above,
      inside,
      c.loop-done.invariant.at.same_end,
    ) in
    record {
      within = inside;
      at = subst (λ (k : ℕ). IsAt c.args.head.now c.write_piece.new.head k) end
          (at_more c.args.head.now c.loop-done.head c.write_piece.new.head (c.args.head.now.written + n)
          (c.loop-done.head.written + length part) c.loop-done.invariant.at grows);
      faults = c.in_ok-write_piece.ensures.caused.ok.0 ∙ c.loop-done.invariant.faults;
      wants = c.in_ok-write_piece.ensures.caused.ok.1 ∙ c.loop-done.invariant.wants;
      apart = apart_on (state c.args.disk.now) (state c.loop-done.disk) (state c.write_piece.new.disk) c.loop-done.invariant.apart
          c.in_ok-write_piece.ensures.apart;
      keeps = g.met.D.Disk.keeps_on c.args.disk.now c.loop-done.disk c.write_piece.new.disk c.loop-done.invariant.keeps
          c.in_ok-write_piece.ensures.keeps;
      reached = λ s backs.
          let so_far = c.loop-done.invariant.reached s backs in
          reached_more (state c.args.disk.now) (state c.loop-done.disk) (state c.write_piece.new.disk) c.loop-done.head
          c.write_piece.new.head s bytes n so_far grows.same_size m part (λ u. u ≡ appended s (take n bytes)) refl above
          c.loop-done.invariant.faults (c.in_ok-write_piece.ensures.comes (appended s (take n bytes)) so_far.backs);
    }

pub returns-clause-comes : goal.returns-clause-comes
returns-clause-comes g c = λ s backs.
    reached_all (g.D.Disk.state c.args.disk.now) (g.D.Disk.state c.loop-done.disk) c.loop-done.head s c.args.bytes.now c.loop-done.done
    (omega arith) (c.loop-done.invariant.reached s backs)

pub returns-in_err-write_piece-clause-apart : goal.returns-in_err-write_piece-clause-apart
returns-in_err-write_piece-clause-apart g c =
    let state = g.D.Disk.state in
    apart_on (state c.args.disk.now) (state c.loop-done.disk) (state c.write_piece.new.disk) c.loop-done.invariant.apart
    c.write_piece.ensures.apart
