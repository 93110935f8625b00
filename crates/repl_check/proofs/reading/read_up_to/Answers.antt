-- Piece by piece the check takes the log.
use Rattle.std.proofs.Common.{rules, ◌≡◌, ℕ, ◌-◌, ◌%◌, ◌<◌, length, min, Result, Ok, Err, sym, ap, ◌∙◌, subst, arith}
use Rattle.repl_store.specs.Backing.{Backs, Before, Comes}
use Rattle.repl_store.specs.Head.{Head}
use Rattle.repl_store.specs.declared.fault.StoreFault.{StoreFault}
use Rattle.repl_check.specs.Found.{GoesThrough}
use Rattle.repl_check.specs.Machine.{check_position}
use Rattle.repl_check.proofs.Pieces.{comes_after, read_more, so_far_more, still_whole}
use Rattle.repl_check.proofs.reading.read_up_to.Goals as goal

pub returns-in_err-read_piece-clause-comes : goal.returns-in_err-read_piece-clause-comes
returns-in_err-read_piece-clause-comes g c s backs =
    let state = g.D.Disk.state in
    let old = state c.args.store.now.disk in
    let mid = state c.pieces.store.disk in
    let new = state c.read_piece.new.store.disk in
    let head = c.args.store.now.head in
    let e = c.in_err-read_piece.field-0.0 in
    let far = c.pieces.invariant.7 s backs in
    let same = c.in_err-read_piece.ensures.head ∙ c.pieces.invariant.0 in
    let here : Backs mid c.pieces.store.head s = subst (λ (h : Head). Backs mid h s) (sym c.pieces.invariant.0) far.backs in
    let is : c.from_residual.result ≡ Err e = search rules in
    let P : Head → Result (Unit {0}) StoreFault → Type 0 = λ h r. Comes {A = Unit {0}} r old new h (Before s) s (λ t. t ≡ s) in
    let comes = subst (λ (h : Head). Comes {A = Unit {0}} (Err e) mid new h (Before s) s (λ t. t ≡ s)) same (c.in_err-read_piece.ensures.comes s here) in
    subst (P c.read_piece.new.store.head) (sym is) (subst (λ (h : Head). P h (Err e)) (sym same)
    (comes_after (Unit {0}) (Err e) old mid new head s far c.pieces.invariant.4 comes))

pub pieces-preserved : goal.pieces-preserved
pieces-preserved g c =
    let state = g.D.Disk.state in
    let old = state c.args.store.now.disk in
    let mid = state c.pieces.store.disk in
    let new = state c.read_piece.new.store.disk in
    let head = c.args.store.now.head in
    let before = c.pieces.check in
    let was = c.pieces.invariant in
    let on = c.in_ok-read_piece.ensures in
    let same = on.head ∙ was.0 in
    let room = length c.pieces.room in
    let more : c.pieces.at < c.args.end = search rules in
    let goes = subst (λ (h : Head). GoesThrough before c.read_piece.new.check h mid (min room (c.args.end - check_position before))) was.0
    on.goes in (
      same,
      still_whole (Unit {0}) tt c.pieces.store.broken c.read_piece.new.store.broken was.1 on.breaks,
      on.size ∙ was.2,
      c.position-at-in-pieces.ensures,
      on.caused.ok.0 ∙ was.4,
      on.caused.ok.1 ∙ was.5,
      g.met.D.Disk.keeps_on c.args.store.now.disk c.pieces.store.disk c.read_piece.new.store.disk was.6 on.keeps,
      λ s backs.
          let far = was.7 s backs in
          let here : Backs mid c.pieces.store.head s = subst (λ (h : Head). Backs mid h s) (sym was.0) far.backs in
          so_far_more tt old mid new head s far (subst (λ (h : Head). Comes {A = Unit {0}} (Ok tt) mid new h (Before s) s (λ t. t ≡ s)) same (on.comes s
          here)),
      read_more old mid head before c.read_piece.new.check c.args.end room was.8 (λ s backs. (was.7 s backs).backs)
          (ap (λ (n : ℕ). n % 8192) was.2 ∙ c.requires.pages) (omega (arith, was.3, more)) goes on.ident on.position,
    )
