-- A read adds what it gave, or was quiet, and at the end all that may be read was.
use Rattle.std.proofs.Common.{◌≡◌, ◌≤◌, ◌++◌, ◌+◌, ℕ, List, Vec, Global, vec_len, length, take, drop, ap, ◌∙◌, arith, length-append}
use Rattle.std.proofs.lemmas.List.{length-take}
use Rattle.repl_filter.proofs.Moves.{Lost-more, Lost-still, Lost-front, Lost-all, items_of_same, len_of_same}
use Rattle.repl_filter.proofs.gather.gather.Goals as goal
use Rattle.repl_filter.proofs.gather.gather.Goals.{in-Bytes+in_ok-extend_from_slice-in-Bytes, in-Quiet}

pub returns-then-free-eq0-clause-bytes : goal.returns-then-free-eq0-clause-bytes
returns-then-free-eq0-clause-bytes g c =
    Lost-front (g.S.Source.source c.args.input.now).left (g.S.Source.source c.loop.input).left c.loop.bytes.items c.args.limit
    (omega (arith, c.loop.bytes.ok.0)) c.loop.invariant.lost

pub returns-in-End-clause-bytes : goal.returns-in-End-clause-bytes
returns-in-End-clause-bytes g c =
    Lost-all (g.S.Source.source c.args.input.now).left (g.S.Source.source c.loop.input).left c.loop.bytes.items c.args.limit
    (omega (arith, c.loop.bytes.ok.0)) c.in-End.ensures.reads.moved.1 c.loop.invariant.lost

pub loop-preserved : goal.loop-preserved
loop-preserved g c =
    elim c.match-read.branch [
      | in-Bytes+in_ok-extend_from_slice-in-Bytes w ↦
          let read = w.in-Bytes.ensures.reads.moved in
          let room = c.read.new.room in
          let past : List ℕ = drop c.min-some.result c.loop.room in
          let items = items_of_same c.match-read.bytes w.extend_from_slice.new.self
          (c.loop.bytes.items ++ take w.in-Bytes.count (room ++ past)) w.bytes-is
          w.in_ok-extend_from_slice-in-Bytes.ensures.items in
          let len = len_of_same c.match-read.bytes w.extend_from_slice.new.self
          (vec_len c.loop.bytes + length (take w.in-Bytes.count (room ++ past))) w.bytes-is
          w.in_ok-extend_from_slice-in-Bytes.ensures.len in
          let size : length (take w.in-Bytes.count (room ++ past)) ≡ w.in-Bytes.count =
          omega (arith, length-take w.in-Bytes.count (room ++ past), length-append room past, read.fits) in
          let some : length room ≤ c.min-some.result = omega (arith, c.read.auto.room, length-take c.min-some.result c.loop.room) in
          record {
            few = omega (arith, len, size, some, read.fits, c.min-some.ensures, c.len.ensures);
            lost = Lost-more (g.S.Source.source c.args.input.now).left (g.S.Source.source c.loop.input).left
                (g.S.Source.source c.read.new.self).left c.loop.bytes.items _ room past w.in-Bytes.count c.loop.invariant.lost read.lost
                read.fits items;
            quiets = omega (arith, len, size, read.some, w.in-Bytes.ensures.reads.quiets, c.loop.invariant.quiets);
            faults = w.in-Bytes.ensures.reads.faults ∙ c.loop.invariant.faults;
          }
      | in-Quiet w ↦
          let items = ap (λ (v : Vec ℕ Global). v.items) w.bytes-is in
          let len = ap (λ (v : Vec ℕ Global). vec_len v) w.bytes-is in
          record {
            few = omega (arith, len);
            lost = Lost-still (g.S.Source.source c.args.input.now).left (g.S.Source.source c.loop.input).left
                (g.S.Source.source c.read.new.self).left c.loop.bytes.items c.match-read.bytes.items c.loop.invariant.lost
                w.in-Quiet.ensures.reads.moved.left_stays items;
            quiets = omega (arith, len, w.in-Quiet.ensures.reads.quiets, c.loop.invariant.quiets);
            faults = w.in-Quiet.ensures.reads.faults ∙ c.loop.invariant.faults;
          }
    ]
