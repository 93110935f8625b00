-- A piece is read and given to the check, or the read is refused.
use Rattle.std.proofs.Common.{rules, ◌≡◌, ℕ, ◌-◌, List, ◌++◌, length, min, take, drop, Result, Err, sym, ap, ◌∙◌, subst, arith}
use Rattle.std.proofs.lemmas.List.{length-take, take_at}
use Rattle.repl_lsn.specs.History.{Path}
use Rattle.repl_lsn.specs.Path.{timeline_at}
use Rattle.repl_store.specs.Backing.{Before, Comes, log}
use Rattle.repl_store.specs.Head.{Head}
use Rattle.repl_store.specs.declared.fault.StoreFault.{StoreFault}
use Rattle.repl_check.specs.Machine.{HasJudged, check_position}
use Rattle.repl_check.proofs.reading.read_piece.Goals as goal

pub returns-in_err-read_into-clause-comes : goal.returns-in_err-read_into-clause-comes
returns-in_err-read_into-clause-comes g c s backs =
    let state = g.D.Disk.state in
    let e = c.in_err-read_into.field-0.0 in
    let is : c.from_residual.result ≡ Err e = search rules in
    let P : Result (Unit {0}) StoreFault → Type 0 = λ r. Comes r (state c.args.store.now.disk) (state c.read_into.new.self.disk)
    c.read_into.new.self.head (Before s) s (λ t. t ≡ s) in
    subst P (sym is) (c.in_err-read_into.ensures.comes s backs)

pub returns-clause-goes : goal.returns-clause-goes
returns-clause-goes g c =
    let old = c.args.check.now in
    let new = c.take_pages.new.check in
    let head = c.args.store.now.head in
    let room = c.args.room.now in
    let read = c.read_into.new.room in
    let n = c.min-count.result in
    let on = c.in_ok-read_into.ensures in
    let count : n ≡ min (length room) (c.args.end - check_position old) = omega (
      arith,
      c.min-count.ensures,
      c.end.view_is,
      c.at.view_is,
      c.position-at.ensures,
    ) in
    let taken : length (take n room) ≡ n = omega (arith, length-take n room, count) in
    let long : length read ≡ n = c.read_into.auto.room ∙ taken in
    let path = c.path.ensures ∙ ap (λ (h : Head). h.path) on.head in
    let all : take n (read ++ drop n room) ≡ read = take_at read (drop n room) n long in
    record {
      bytes = take n (read ++ drop n room);
      counted = ap length all ∙ long ∙ count;
      judged = subst (λ (p : Path). (floor : ℕ) (before : List ℕ) → HasJudged old (timeline_at p) floor before → HasJudged new (timeline_at p)
          floor (before ++ take n (read ++ drop n room))) path c.take_pages.ensures.judged;
      of_log = λ s backs. all ∙ on.read s backs ∙ ap (λ (k : ℕ). take k (drop (c.position-at.result - head.control.floor) (log s))) (taken
          ∙ count)
          ∙ ap (λ (k : ℕ). take (min (length room) (c.args.end - check_position old)) (drop (k - head.control.floor) (log s)))
          c.position-at.ensures;
    }
