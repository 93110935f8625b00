-- One more shared step, and the first that differs.
use Rattle.std.proofs.Common.{◌≡◌, ◌≢◌, ◌<◌, length, get_or, arith, rules}
use Rattle.std.proofs.lemmas.List.{length_push}
use Rattle.std.proofs.lemmas.Slice.Zip.{zip_turn}
use Rattle.repl_lsn.specs.Path.{step}
use Rattle.repl_lsn.proofs.Relations.{step_more, differ_here}
use Rattle.repl_lsn.proofs.history.History.shared_parents.Goals as goal

pub returns-then-not-is_same_step : goal.returns-then-not-is_same_step
returns-then-not-is_same_step c =
    let a = c.args.self.now in
    let b = c.args.other.now in
    let n = c.loop-mine.shared in
    let x = c.in-Some.mine.now in
    let y = c.in-Some.its.now in
    let start = c.into_iter-mine-iterator.result in
    let first : start.a.rest.now ≡ a.parents = search rules in
    let second : start.b.rest.now ≡ b.parents = search rules in
    let turn = zip_turn a.parents b.parents c.loop-mine.yielded start c.loop-mine.mine-iterator c.next.new.self c.next.result first second
    c.loop-mine.yielded_by (c.in-Some.mine, c.in-Some.its) c.in-Some.is c.next.ensures.steps in
    let count : n ≡ length c.loop-mine.yielded = c.loop-mine.invariant.count in
    let ours : n < length a.parents = omega (arith, count, turn.0) in
    let theirs : n < length b.parents = omega (arith, count, turn.1) in
    let at-x : x ≡ get_or a.parents n x = let e = turn.2 x in cc in
    let at-y : y ≡ get_or b.parents n y = let e = turn.3 y in cc in
    let apart : step x ≢ step y = search rules in
    differ_here a b n x y ours theirs at-x at-y apart c.loop-mine.invariant.same

pub loop-mine-preserved : goal.loop-mine-preserved
loop-mine-preserved c =
    let a = c.args.self.now in
    let b = c.args.other.now in
    let n = c.loop-mine.shared in
    let x = c.in-Some.mine.now in
    let y = c.in-Some.its.now in
    let start = c.into_iter-mine-iterator.result in
    let first : start.a.rest.now ≡ a.parents = search rules in
    let second : start.b.rest.now ≡ b.parents = search rules in
    let turn = zip_turn a.parents b.parents c.loop-mine.yielded start c.loop-mine.mine-iterator c.next.new.self c.next.result first second
    c.loop-mine.yielded_by (c.in-Some.mine, c.in-Some.its) c.in-Some.is c.next.ensures.steps in
    let count : n ≡ length c.loop-mine.yielded = c.loop-mine.invariant.count in
    let ours : n < length a.parents = omega (arith, count, turn.0) in
    let theirs : n < length b.parents = omega (arith, count, turn.1) in
    let at-x : x ≡ get_or a.parents n x = let e = turn.2 x in cc in
    let at-y : y ≡ get_or b.parents n y = let e = turn.3 y in cc in
    let pair : step x ≡ step y = search rules in
    record {
      next = search rules;
      finite = search rules;
      count = let longer = length_push c.loop-mine.yielded (c.in-Some.mine, c.in-Some.its) in omega (arith, count, longer);
      same = step_more a.parents b.parents n x y ours theirs at-x at-y pair c.loop-mine.invariant.same;
    }
