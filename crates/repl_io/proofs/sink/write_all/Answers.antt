-- A write that took some bytes leaves the front longer.
use Rattle.std.proofs.Common.{◌∙◌}
use Rattle.repl_io.proofs.Moves.{Gained-more, writes-next, writes-within}
use Rattle.repl_io.proofs.sink.write_all.Goals as goal

pub loop-start-preserved : goal.loop-start-preserved
loop-start-preserved g c = record {
  within = writes-within _ c.loop-start.start c.args.bytes.now _ _ c.loop-start-test.true c.in-Wrote.ensures.writes.moved;
  gained = Gained-more _ _ _ _ _ _ c.loop-start.invariant.gained
      (writes-next _ c.loop-start.start c.args.bytes.now _ _ c.in-Wrote.ensures.writes.moved);
  faults = c.in-Wrote.ensures.writes.faults ∙ c.loop-start.invariant.faults;
  wants = c.in-Wrote.ensures.writes.wants ∙ c.loop-start.invariant.wants;
}
