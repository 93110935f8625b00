-- There is room for a piece where the reader waits.
use Rattle.std.proofs.Common.{◌-◌, length, drop, arith, ap}
use Rattle.std.proofs.lemmas.List.{length-take, length-drop}
use Rattle.repl_wire.specs.Reader.{Reading}
use Rattle.repl_wire.proofs.Settled.{judge_short}
use Rattle.repl_wire.proofs.reader.FrameReader.feed.Goals as goal

pub put_at-requires : goal.put_at-requires
put_at-requires c =
    let few = judge_short c.args.self.now.phase c.args.self.now.rest c.requires.waits in
    let is = ap (λ (r : Reading). length r.rest) c.self.view_is in
    let room = c.deref_mut-2.ensures.len in
    omega (
      arith,
      few,
      is,
      length-take (c.self.inside.end - c.self.inside.start) (drop c.self.inside.start c.self.inside.buffer.items),
      length-drop c.self.inside.start c.self.inside.buffer.items,
      c.self.invariant.0,
      c.self.invariant.1,
      c.self.invariant.2,
      room,
      c.move_to_front.ensures.size,
      c.requires.short,
    )
